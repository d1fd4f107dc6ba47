use mathlib.Core.Path.{◌≡◌}
use lib.ListN.{length}
use Rattle.words.specs.Words.{words}
use Rattle.decomposition.specs.BranchAtoms.{AtomsLeft}
use Rattle.decomposition.proofs.place.put_branch.Given as goal

abbrev pub invariant-loop-j : goal.invariant-loop-j
invariant-loop-j l = AtomsLeft (words l.scratch) l.p l.n l.at l.name (words l.initial.atoms) (words l.atoms) l.j × (length l.atoms ≡ length l.initial.atoms)
