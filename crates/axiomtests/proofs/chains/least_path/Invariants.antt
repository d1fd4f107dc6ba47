use Rattle.words.specs.Words.{words}
use Rattle.axiomtests.specs.Breaking.{Aside}
use Rattle.axiomtests.proofs.PathLaws.{Tried}
use Rattle.axiomtests.proofs.chains.least_path.Given as goal

abbrev pub invariant-loop-x : goal.invariant-loop-x
invariant-loop-x l = Aside (words l.initial.scratch) (words l.scratch) × Tried (words l.initial.scratch) l.c.size l.c l.x
