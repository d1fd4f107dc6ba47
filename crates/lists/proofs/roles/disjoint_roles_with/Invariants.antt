use mathlib.Core.Path.{◌≡◌}
use mathlib.Core.List.{List, [], map}
use Prim.Native.Nat.{ℕ, ◌+◌, ◌-◌}
use lib.ListN.{length, get_or}
use Rattle.words.specs.Words.{words}
use Rattle.ir.specs.Roles.{role_of}
use Rattle.rules.specs.Axioms.{paired}
use Rattle.pool.specs.Layout.{run}
use Rattle.hands.specs.Hands.{four}
use Rattle.lists.specs.Listed.{pair_disjoint}
use Rattle.lists.specs.Turns.{Turned}
use Rattle.lists.specs.ListTurns.{each_of}
use Rattle.lists.specs.WordLaws.{left}
use Rattle.lists.proofs.roles.disjoint_roles_with.Given as goal

abbrev pub invariant-loop-j : goal.invariant-loop-j
invariant-loop-j l = ((d : List ℕ) → Turned (each_of pair_disjoint (paired (role_of (get_or (words l.initial.scratch) (l.at + l.i) 0)) (map role_of (run (words l.initial.scratch) (l.at + l.i + 1) (l.count - (l.i + 1)))) []))
    (each_of pair_disjoint (paired (role_of (get_or (words l.initial.scratch) (l.at + l.i) 0)) (map role_of (left (words l.initial.scratch) l.at l.count l.j)) []))
    l.initial.k l.k (four (words l.initial.scratch) (words l.initial.clauses) (words l.initial.atoms) d) l.scratch (words l.clauses) (words l.atoms) d)
    × (length l.scratch ≡ length l.initial.scratch) × (length l.clauses ≡ length l.initial.clauses) × (length l.atoms ≡ length l.initial.atoms)
