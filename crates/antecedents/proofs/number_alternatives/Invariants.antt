use Rattle.antecedents.proofs.Rows.{Filled}
use Rattle.antecedents.proofs.number_alternatives.Given as goal

abbrev pub invariant-loop-c : goal.invariant-loop-c
invariant-loop-c l = Filled l.initial.scratch l.scratch l.fn.k.concepts l.c
