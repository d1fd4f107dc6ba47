use mathlib.Core.Path.{◌≡◌}
use lib.ListN.{length}
use Rattle.words.specs.Words.{words}
use Rattle.decomposition.specs.Decomposing.{Decomposing}
use Rattle.decomposition.specs.Turning.{DrawnPassed}
use Rattle.decomposition.proofs.decompose_wide_bodies.Given as goal

abbrev pub invariant-loop-c : goal.invariant-loop-c
invariant-loop-c l = (length l.scratch ≡ length l.initial.scratch) × (length l.clauses ≡ length l.initial.clauses) × (length l.atoms ≡ length l.initial.atoms) × (l.k ≡ l.initial.k)
    × ((D : Decomposing l.initial.k (words l.initial.clauses) (words l.initial.atoms)) → DrawnPassed l.initial.k (words l.initial.clauses) (words l.initial.atoms) D (words l.scratch) (words l.clauses) (words l.atoms) l.p.naming l.c l.p.atoms l.p.rewritten)
