use mathlib.Core.Path.{◌≡◌}
use mathlib.Core.List.{List}
use Prim.Native.Nat.{ℕ}
use lib.ListN.{length}
use Rattle.words.specs.Words.{words}
use Rattle.hands.specs.Hands.{four}
use Rattle.axioms.specs.Bodies.{gives_class, BodiedAt}
use Rattle.axioms.proofs.bodies.push_bodies.Given as goal

abbrev pub invariant-loop-i : goal.invariant-loop-i
invariant-loop-i l = ((d : List ℕ) → BodiedAt (gives_class l.class) l.initial.k l.sub l.y l.count (four (words l.initial.scratch) (words l.initial.clauses) (words l.initial.atoms) d) (four (words l.scratch) (words l.clauses) (words l.atoms) d) l.k l.i)
    × (length l.scratch ≡ length l.initial.scratch) × (length l.clauses ≡ length l.initial.clauses) × (length l.atoms ≡ length l.initial.atoms)
