use Prim.Native.Nat.{◌+◌, ◌*◌, ◌-◌}
use Rattle.words.specs.Words.{words}
use Rattle.hands.specs.Hands.{four_of}
use Rattle.tables.specs.Lending.{SameReferences}
use Rattle.unfolding.specs.Passing.{Turning, Unrolling}
use Rattle.unfolding.proofs.unfold.apply_reflexive_roles.Given as goal

abbrev pub invariant-loop-i : goal.invariant-loop-i
invariant-loop-i l = Unrolling l.originals l.left l.c l.initial.lent.counters l.initial.queued (four_of (words l.initial.scratch) l.initial.lent) l.lent.counters l.queued l.i (four_of (words l.scratch) l.lent) × SameReferences l.initial.lent l.lent

abbrev pub invariant-unfolding : goal.invariant-unfolding
invariant-unfolding l = Turning l.originals l.left l.initial.lent.counters (four_of (words l.initial.scratch) l.initial.lent) l.lent.counters l.queued (four_of (words l.scratch) l.lent) × SameReferences l.initial.lent l.lent

abbrev pub decreases-unfolding : goal.decreases-unfolding
decreases-unfolding l = l.left + l.queued + 2 * (l.originals + 4096 - l.lent.counters.clauses)
