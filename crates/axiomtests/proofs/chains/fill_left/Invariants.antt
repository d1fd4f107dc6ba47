use Rattle.words.specs.Words.{words}
use Rattle.axiomtests.proofs.PathLaws.{Filled}
use Rattle.axiomtests.proofs.chains.fill_left.Given as goal

abbrev pub invariant-loop-k : goal.invariant-loop-k
invariant-loop-k l = Filled (words l.initial.scratch) (words l.scratch) l.c.size l.c l.x l.k l.set
