use mathlib.Core.Path.{◌≡◌}
use lib.ListN.{length}
use Rattle.words.specs.Words.{words}
use Rattle.rules.specs.Axioms.{later_pairs}
use Rattle.pool.specs.Layout.{run}
use Rattle.tables.specs.Lending.{SameReferences}
use Rattle.hands.specs.Hands.{four_of}
use Rattle.lists.specs.Turns.{Turned}
use Rattle.lists.specs.ListTurns.{each_of}
use Rattle.lists.specs.WordLaws.{left}
use Rattle.lists.specs.CallLaws.{pair_of}
use Rattle.lists.proofs.disjoints.disjoint.Given as goal

abbrev pub invariant-loop-i : goal.invariant-loop-i
invariant-loop-i l = Turned (each_of (pair_of l.deferred) (later_pairs (run (words l.initial.scratch) l.at l.count))) (each_of (pair_of l.deferred) (later_pairs (left (words l.initial.scratch) l.at l.count l.i)))
    l.initial.lent.counters l.lent.counters (four_of (words l.initial.scratch) l.initial.lent) l.scratch (words l.lent.clauses.now) (words l.lent.atoms.now) (words l.lent.deferrals.now)
    × (length l.scratch ≡ length l.initial.scratch) × SameReferences l.initial.lent l.lent
