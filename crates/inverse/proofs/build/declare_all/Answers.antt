use Rattle.inverse.specs.AxiomLaws.{reading_first, reading_asks, reading_next, reading_end}
use Rattle.inverse.proofs.build.declare_all.Goals as goal

pub loop-i-init : goal.loop-i-init
loop-i-init c = reading_first c.args.scratch.now c.args.n c.requires.0 c.requires.1

pub declare_axiom-entries-requires : goal.declare_axiom-entries-requires
declare_axiom-entries-requires c = (reading_asks _ _ _ _ _ c.loop-i.invariant, c.loop-i-test.true, c.loop-i.invariant.few)

pub loop-i-preserved : goal.loop-i-preserved
loop-i-preserved c =
    let x = c.declare_axiom-entries in
    reading_next _ _ _ _ _ c.loop-i.invariant c.loop-i-test.true _ _ x.ensures.made x.ensures.few x.ensures.beside x.auto.scratch

pub returns-clause-made : goal.returns-clause-made
returns-clause-made c = reading_end _ _ _ _ _ c.loop-i.invariant c.loop-i-test.false
