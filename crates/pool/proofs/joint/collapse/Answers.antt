use native.Mathlib.Omega.{arith}
use mathlib.Core.Path.{sym, ap, subst, ◌∙◌}
use Prim.Native.Nat.{ℕ}
use Rattle.words.specs.Words.{words}
use Rattle.ir.specs.Answer.{answer}
use Rattle.rules.specs.Base.{M}
use Rattle.rules.specs.Pool.{Pool, intern_raw}
use Rattle.rules.specs.JointLaws.{list_of}
use Rattle.pool.specs.Layout.{pool_of}
use Rattle.pool.specs.Answers.{Interned}
use Rattle.pool.specs.Joints.{joint_of, identity_of}
use Rattle.pool.proofs.Joining.{bare_identity, interned_over, collapsed_none, collapsed_one, collapsed_many}
use Rattle.pool.proofs.joint.collapse.Goals as goal

pub intern_bare-requires : goal.intern_bare-requires
intern_bare-requires c =
    let b = bare_identity (joint_of c.args.joint) c.identity.result c.identity.ensures in
    (c.requires.0, b.low, b.high)

pub returns-in-0-clause-interned : goal.returns-in-0-clause-interned
returns-in-0-clause-interned c =
    let j = joint_of c.args.joint in
    let w = words c.args.scratch.now in
    let b = bare_identity j c.identity.result c.identity.ensures in
    interned_over c.args.k.now _ _ w w _ _ c.intern_bare.ensures.interned (ap (λ (f : M Pool ℕ). f (pool_of w c.args.k.now.concepts)) (ap intern_raw b.is ∙ sym (collapsed_none (identity_of j) (list_of j) w c.args.at c.args.count c.in-0.is)))

pub returns-in-1-clause-interned : goal.returns-in-1-clause-interned
returns-in-1-clause-interned c =
    let j = joint_of c.args.joint in
    collapsed_one (identity_of j) (list_of j) (words c.args.scratch.now) c.args.at c.args.count c.args.k.now c.requires.0.held c.requires.2 c.in-1.is c.get_word.result c.get_word.ensures

pub returns-in_default-clause-interned : goal.returns-in_default-clause-interned
returns-in_default-clause-interned c =
    let j = joint_of c.args.joint in
    let w = words c.args.scratch.now in
    subst (λ (f : M Pool ℕ). Interned c.args.k.now f w (words c.intern_list.new.scratch) (answer c.intern_list.new.k c.intern_list.result)) (sym (collapsed_many (identity_of j) (list_of j) w c.args.at c.args.count (λ e. absurd (omega arith)) (λ e. absurd (omega arith)))) c.intern_list.ensures.interned
