use Rattle.layouts.proofs.Pairs.{Pairing}
use Rattle.layouts.proofs.enter.enter_pairs.Given as goal

abbrev pub invariant-loop-j : goal.invariant-loop-j
invariant-loop-j l = Pairing l.initial.scratch l.n l.role l.size l.scratch l.j
