use Rattle.words.specs.Words.{words}
use Rattle.statistics.specs.Counting.{CountedTo}
use Rattle.statistics.proofs.clause_stats.Given as goal

abbrev pub invariant-loop-i : goal.invariant-loop-i
invariant-loop-i l = CountedTo (words l.clauses) (words l.atoms) l.n l.deferred l.decomposed l.s l.i
