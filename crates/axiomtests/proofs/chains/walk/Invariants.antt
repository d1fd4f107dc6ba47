use Rattle.words.specs.Words.{words}
use Rattle.axiomtests.proofs.PathLaws.{Walked}
use Rattle.axiomtests.proofs.chains.walk.Given as goal

abbrev pub invariant-loop-k : goal.invariant-loop-k
invariant-loop-k l = Walked (words l.initial.scratch) (words l.scratch) l.c.size l.c l.x l.k l.y
