use mathlib.Core.Path.{◌≡◌}
use lib.ListN.{length}
use Rattle.words.specs.Words.{words}
use Rattle.disjointness.specs.Turns.{Has, TurnsAt}
use Rattle.disjointness.specs.PairTurns.{before}
use Rattle.disjointness.proofs.pairs.push_pairs.Given as goal

abbrev pub invariant-loop-i : goal.invariant-loop-i
invariant-loop-i l = TurnsAt 13500 (λ env. Has env (words l.initial.scratch) l.initial.k l.b l.y l.others) (before (words l.initial.scratch) l.initial.k l.b l.y l.others) l.initial.k l.a 1 l.count (words l.initial.scratch) (words l.initial.clauses) (words l.initial.atoms) (words l.scratch) (words l.clauses) (words l.atoms) l.k l.i
    × (length l.scratch ≡ length l.initial.scratch) × (length l.clauses ≡ length l.initial.clauses) × (length l.atoms ≡ length l.initial.atoms)
