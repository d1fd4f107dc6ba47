use Rattle.normalize.specs.AxiomTurns.{Going}
use Rattle.normalize.proofs.forms.nnf_each.Given as goal

abbrev pub invariant-loop-i : goal.invariant-loop-i
invariant-loop-i l = Going l.initial.scratch l.initial.k l.n l.line l.scratch l.k l.i
