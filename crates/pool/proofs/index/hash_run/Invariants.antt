use mathlib.Core.Path.{◌≡◌}
use Prim.Native.Nat.{◌+◌, ◌-◌, ◌<◌}
use Rattle.words.specs.Words.{words}
use Rattle.pool.specs.Layout.{run}
use Rattle.pool.specs.Index.{hash_by}
use Rattle.pool.proofs.index.hash_run.Given as goal

abbrev pub invariant-loop-i : goal.invariant-loop-i
invariant-loop-i l = (l.h < 2048) × (hash_by l.h (run (words l.scratch) (l.at + l.i) (l.count - l.i)) ≡ hash_by l.start (run (words l.scratch) l.at l.count))
