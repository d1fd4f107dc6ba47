use mathlib.Core.Path.{◌≡◌}
use Prim.Native.Nat.{◌+◌}
use lib.ListN.{length}
use Rattle.words.specs.Words.{words}
use Rattle.inclusions.specs.PartLaws.{SortedAt}
use Rattle.inclusions.proofs.parts.partition.Given as goal

abbrev pub invariant-loop-i : goal.invariant-loop-i
invariant-loop-i l = SortedAt l.initial.k l.c (words l.initial.scratch) (words l.scratch) l.k l.soft l.hard × (length l.scratch ≡ length l.initial.scratch) × (l.soft + l.hard ≡ l.i)
