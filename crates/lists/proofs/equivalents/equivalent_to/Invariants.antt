use mathlib.Core.Path.{◌≡◌}
use mathlib.Core.List.{[]}
use Prim.Native.Nat.{◌+◌}
use lib.ListN.{length, get_or}
use Rattle.words.specs.Words.{words}
use Rattle.rules.specs.Axioms.{numbered, with_others}
use Rattle.pool.specs.Layout.{run}
use Rattle.tables.specs.Lending.{SameReferences}
use Rattle.hands.specs.Hands.{four_of}
use Rattle.lists.specs.Turns.{TurnedWaits}
use Rattle.lists.specs.ListTurns.{each_of}
use Rattle.lists.specs.WordLaws.{left}
use Rattle.lists.specs.CallLaws.{gci_of}
use Rattle.lists.proofs.equivalents.equivalent_to.Given as goal

abbrev pub invariant-loop-j : goal.invariant-loop-j
invariant-loop-j l = TurnedWaits (each_of gci_of (with_others (l.i, get_or (words l.initial.scratch) (l.at + l.i) 0) (numbered 0 (run (words l.initial.scratch) l.at l.count)) []))
    (each_of gci_of (with_others (l.i, get_or (words l.initial.scratch) (l.at + l.i) 0) (numbered l.j (left (words l.initial.scratch) l.at l.count l.j)) []))
    l.initial.lent.counters l.lent.counters (four_of (words l.initial.scratch) l.initial.lent) l.scratch (words l.lent.clauses.now) (words l.lent.atoms.now) (words l.lent.deferrals.now)
    × (length l.scratch ≡ length l.initial.scratch) × SameReferences l.initial.lent l.lent
