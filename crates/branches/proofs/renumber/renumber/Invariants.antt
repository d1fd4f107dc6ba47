use mathlib.Core.Path.{◌≡◌}
use lib.ListN.{length}
use Rattle.words.specs.Words.{words}
use Rattle.branches.specs.Layout.{met_at, keep_at, renumbered_at}
use Rattle.branches.specs.Renumbered.{Renumbering}
use Rattle.branches.proofs.renumber.renumber.Given as goal

abbrev pub invariant-loop-i : goal.invariant-loop-i
invariant-loop-i l = (length l.scratch ≡ length l.initial.scratch) × Renumbering met_at keep_at renumbered_at (words l.initial.scratch) l.fn.atoms.base l.fn.atoms.count l.root (words l.scratch) l.n l.i
