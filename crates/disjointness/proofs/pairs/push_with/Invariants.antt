use mathlib.Core.Path.{◌≡◌}
use lib.ListN.{length}
use Rattle.words.specs.Words.{words}
use Rattle.disjointness.specs.Turns.{TurnsAt}
use Rattle.disjointness.specs.PairTurns.{Before, behind}
use Rattle.disjointness.proofs.pairs.push_with.Given as goal

abbrev pub invariant-loop-j : goal.invariant-loop-j
invariant-loop-j l = TurnsAt l.top (Before (words l.initial.scratch) l.top) (behind (words l.initial.scratch) l.top) l.initial.k l.b l.y l.count (words l.initial.scratch) (words l.initial.clauses) (words l.initial.atoms) (words l.scratch) (words l.clauses) (words l.atoms) l.k l.j
    × (length l.scratch ≡ length l.initial.scratch) × (length l.clauses ≡ length l.initial.clauses) × (length l.atoms ≡ length l.initial.atoms)
