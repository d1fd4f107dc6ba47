use mathlib.Core.Path.{◌≡◌}
use lib.ListN.{length}
use Rattle.words.specs.Words.{words}
use Rattle.counted.specs.LoopTurns.{ClausesAt}
use Rattle.counted.proofs.loops.add_counted_self_loops.Given as goal

abbrev pub invariant-loop-c : goal.invariant-loop-c
invariant-loop-c l = ClausesAt l.initial.k (words l.initial.scratch) (words l.initial.clauses) (words l.initial.atoms) (words l.scratch) (words l.clauses) (words l.atoms) l.k l.c
    × (length l.scratch ≡ length l.initial.scratch) × (length l.clauses ≡ length l.initial.clauses) × (length l.atoms ≡ length l.initial.atoms)
