use mathlib.Core.Path.{ap}
use Rattle.words.specs.Words.{words}
use Rattle.rules.specs.Concept.{Concept}
use Rattle.rules.specs.Pool.{intern_raw}
use Rattle.pool.specs.Layout.{pool_of}
use Rattle.pool.specs.Joints.{joint_of, annihilator_of}
use Rattle.pool.proofs.Joining.{bare_annihilator, interned_over}
use Rattle.pool.proofs.joint.annihilate.Goals as goal

pub intern_bare-requires : goal.intern_bare-requires
intern_bare-requires c =
    let b = bare_annihilator (joint_of c.args.joint) c.annihilator.result c.annihilator.ensures in
    (c.requires, b.low, b.high)

pub returns-clause-interned : goal.returns-clause-interned
returns-clause-interned c =
    let b = bare_annihilator (joint_of c.args.joint) c.annihilator.result c.annihilator.ensures in
    interned_over c.args.k.now _ (intern_raw (annihilator_of (joint_of c.args.joint))) _ _ _ _ c.intern_bare.ensures.interned (ap (λ (e : Concept). intern_raw e (pool_of (words c.args.scratch.now) c.args.k.now.concepts)) b.is)
