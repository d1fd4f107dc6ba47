use Rattle.tables.specs.Lending.{SameReferences}
use Rattle.clausifier.specs.AllLaws.{Going}
use Rattle.clausifier.proofs.clausify_axioms.Given as goal

abbrev pub invariant-loop-i : goal.invariant-loop-i
invariant-loop-i l = Going l.initial.scratch l.initial.lent.clauses.now l.initial.lent.atoms.now l.initial.lent.deferrals.now l.n l.line l.initial.lent.counters l.scratch l.lent.clauses.now l.lent.atoms.now l.lent.deferrals.now l.lent.counters l.i × SameReferences l.initial.lent l.lent
