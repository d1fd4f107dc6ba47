use mathlib.Core.Path.{◌≡◌}
use lib.ListN.{length}
use Rattle.words.specs.Words.{words}
use Rattle.counted.specs.LoopTurns.{HeadsAt}
use Rattle.counted.proofs.loops.loops_of_head.Given as goal

abbrev pub invariant-loop-j : goal.invariant-loop-j
invariant-loop-j l = HeadsAt l.from l.c l.initial.k (words l.initial.scratch) (words l.initial.clauses) (words l.initial.atoms) (words l.scratch) (words l.clauses) (words l.atoms) l.k l.j
    × (length l.scratch ≡ length l.initial.scratch) × (length l.clauses ≡ length l.initial.clauses) × (length l.atoms ≡ length l.initial.atoms)
