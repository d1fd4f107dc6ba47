use Prim.Native.Nat.{◌-◌}
use Rattle.tables.specs.Lending.{SameReferences}
use Rattle.waiting.specs.Limits.{most_limits}
use Rattle.clausifier.specs.Settles.{SettledAt}
use Rattle.clausifier.proofs.settle.settle.Given as goal

abbrev pub invariant-loop-i : goal.invariant-loop-i
invariant-loop-i l = SettledAt l.initial.scratch l.initial.lent.clauses.now l.initial.lent.atoms.now l.initial.lent.deferrals.now l.initial.lent.counters l.scratch l.lent.clauses.now l.lent.atoms.now l.lent.deferrals.now l.lent.counters l.i × SameReferences l.initial.lent l.lent

abbrev pub decreases-loop-i : goal.decreases-loop-i
decreases-loop-i l = most_limits - l.i
