use Rattle.inverse.specs.AxiomLaws.{Reading}
use Rattle.inverse.proofs.build.declare_all.Given as goal

abbrev pub invariant-loop-i : goal.invariant-loop-i
invariant-loop-i l = Reading l.initial.scratch l.scratch l.n l.i l.entries
