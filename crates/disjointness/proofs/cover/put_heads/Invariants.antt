use mathlib.Core.Path.{◌≡◌}
use lib.ListN.{length}
use Rattle.words.specs.Words.{words}
use Rattle.disjointness.specs.Covers.{HeadsAt}
use Rattle.disjointness.proofs.cover.put_heads.Given as goal

abbrev pub invariant-loop-i : goal.invariant-loop-i
invariant-loop-i l = HeadsAt l.k l.at l.count (words l.initial.scratch) (words l.scratch) l.i × (length l.scratch ≡ length l.initial.scratch)
