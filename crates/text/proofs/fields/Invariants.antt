use Rattle.text.proofs.Laws.{Reading}
use Rattle.text.proofs.fields.Given as goal

abbrev pub invariant-loop-n : goal.invariant-loop-n
invariant-loop-n l = Reading l.deck l.p l.n
