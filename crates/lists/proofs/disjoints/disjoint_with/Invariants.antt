use mathlib.Core.Path.{◌≡◌}
use mathlib.Core.List.{[]}
use Prim.Native.Nat.{◌+◌, ◌-◌}
use lib.ListN.{length, get_or}
use Rattle.words.specs.Words.{words}
use Rattle.rules.specs.Axioms.{paired}
use Rattle.pool.specs.Layout.{run}
use Rattle.tables.specs.Lending.{SameReferences}
use Rattle.hands.specs.Hands.{four_of}
use Rattle.lists.specs.Turns.{Turned}
use Rattle.lists.specs.ListTurns.{each_of}
use Rattle.lists.specs.WordLaws.{left}
use Rattle.lists.specs.CallLaws.{pair_of}
use Rattle.lists.proofs.disjoints.disjoint_with.Given as goal

abbrev pub invariant-loop-j : goal.invariant-loop-j
invariant-loop-j l = Turned (each_of (pair_of l.deferred) (paired (get_or (words l.initial.scratch) (l.at + l.i) 0) (run (words l.initial.scratch) (l.at + l.i + 1) (l.count - (l.i + 1))) []))
    (each_of (pair_of l.deferred) (paired (get_or (words l.initial.scratch) (l.at + l.i) 0) (left (words l.initial.scratch) l.at l.count l.j) []))
    l.initial.lent.counters l.lent.counters (four_of (words l.initial.scratch) l.initial.lent) l.scratch (words l.lent.clauses.now) (words l.lent.atoms.now) (words l.lent.deferrals.now)
    × (length l.scratch ≡ length l.initial.scratch) × SameReferences l.initial.lent l.lent
