use mathlib.Core.Path.{◌≡◌}
use mathlib.Core.List.{List, map}
use Prim.Native.Nat.{ℕ}
use lib.ListN.{length}
use Rattle.words.specs.Words.{words}
use Rattle.ir.specs.Roles.{role_of}
use Rattle.rules.specs.Axioms.{later_pairs}
use Rattle.pool.specs.Layout.{run}
use Rattle.hands.specs.Hands.{four}
use Rattle.lists.specs.Listed.{pair_disjoint}
use Rattle.lists.specs.Turns.{Turned}
use Rattle.lists.specs.ListTurns.{each_of}
use Rattle.lists.specs.WordLaws.{left}
use Rattle.lists.proofs.roles.disjoint_roles.Given as goal

abbrev pub invariant-loop-i : goal.invariant-loop-i
invariant-loop-i l = ((d : List ℕ) → Turned (each_of pair_disjoint (later_pairs (map role_of (run (words l.initial.scratch) l.at l.count)))) (each_of pair_disjoint (later_pairs (map role_of (left (words l.initial.scratch) l.at l.count l.i))))
    l.initial.k l.k (four (words l.initial.scratch) (words l.initial.clauses) (words l.initial.atoms) d) l.scratch (words l.clauses) (words l.atoms) d)
    × (length l.scratch ≡ length l.initial.scratch) × (length l.clauses ≡ length l.initial.clauses) × (length l.atoms ≡ length l.initial.atoms)
