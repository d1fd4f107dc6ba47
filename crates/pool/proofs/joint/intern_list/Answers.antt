use Rattle.ir.specs.Answer.{answer}
use mathlib.Core.Path.{sym, subst}
use Prim.Native.Nat.{◌<◌}
use Rattle.words.specs.Words.{words}
use Rattle.pool.specs.Layout.{run}
use Rattle.rules.specs.Pool.{intern_raw}
use Rattle.rules.specs.Concept.{Concept}
use Rattle.rules.specs.Deck.{parts_of}
use Rattle.rules.specs.Invariants.{Each}
use Rattle.pool.specs.Answers.{Interned}
use Rattle.pool.specs.Joints.{joint_of}
use Rattle.pool.proofs.Making.{list_over, list_asked, list_parts}
use Rattle.pool.proofs.joint.intern_list.Goals as goal

pub intern-requires : goal.intern-requires
intern-requires c = rw c.new-x.ensures (record {
  ready = (c.requires.0, list_asked (joint_of c.args.joint) c.args.scratch.now c.args.at c.args.count c.kind.result c.kind.ensures c.requires.1);
  each = subst (λ (e : Concept). Each (λ d. d < c.args.k.now.concepts) (parts_of e)) (sym (list_over (joint_of c.args.joint) (words c.args.scratch.now) c.args.at c.args.count c.kind.result c.kind.ensures)) (rw (list_parts (joint_of c.args.joint) (run (words c.args.scratch.now) c.args.at c.args.count)) c.requires.2);
})

pub returns : goal.returns
returns c = record {
  interned = subst (λ (e : Concept). Interned c.args.k.now (intern_raw e) (words c.args.scratch.now) (words c.intern.new.scratch) (answer c.intern.new.k c.intern.result)) (list_over (joint_of c.args.joint) (words c.args.scratch.now) c.args.at c.args.count c.kind.result c.kind.ensures) (rw c.new-x.ensures at c.intern.ensures.interned);
  scratch_unchanged = c.intern.ensures.scratch_unchanged;
}
