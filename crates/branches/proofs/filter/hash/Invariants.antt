use mathlib.Core.Path.{◌≡◌}
use Prim.Native.Nat.{◌<◌}
use lib.ListN.{drop}
use Rattle.words.specs.Words.{words}
use Rattle.branches.specs.Layout.{renumbered_at}
use Rattle.branches.specs.Hash.{hash_by}
use Rattle.branches.specs.Renumbered.{run}
use Rattle.branches.proofs.filter.hash.Given as goal

abbrev pub invariant-loop-i : goal.invariant-loop-i
invariant-loop-i l = (l.h < 4294967291) × (hash_by l.h (drop l.i (run (words l.scratch) renumbered_at l.count)) ≡ hash_by 0 (run (words l.scratch) renumbered_at l.count))
