use mathlib.Core.Path.{◌≡◌}
use lib.ListN.{length}
use Rattle.words.specs.Words.{words}
use Rattle.decomposition.specs.BranchRecords.{BranchesLeft}
use Rattle.decomposition.proofs.place.put_named.Given as goal

abbrev pub invariant-loop-i : goal.invariant-loop-i
invariant-loop-i l = BranchesLeft (words l.scratch) l.s l.c l.to (words l.initial.clauses) (words l.initial.atoms) (words l.clauses) (words l.atoms) l.p l.a l.i × (length l.clauses ≡ length l.initial.clauses) × (length l.atoms ≡ length l.initial.atoms)
