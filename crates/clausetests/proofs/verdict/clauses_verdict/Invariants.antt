use Rattle.clausetests.proofs.VerdictLaws.{TriedTo}
use Rattle.clausetests.proofs.verdict.clauses_verdict.Given as goal

abbrev pub invariant-loop-i : goal.invariant-loop-i
invariant-loop-i l = TriedTo l.text l.clauses l.atoms l.store l.initial.scratch l.count l.size l.scratch l.i
