use mathlib.Core.Path.{◌≡◌}
use Prim.Native.Nat.{ℕ, ◌+◌, ◌*◌, ◌<◌}
use Rattle.words.specs.Words.{words}
use Rattle.sets.specs.Kept.{set_at}
use Rattle.clausetests.specs.Fitting.{Changed}
use Rattle.clausetests.proofs.fitting.fill.Given as goal

abbrev pub invariant-loop-i : goal.invariant-loop-i
invariant-loop-i l = ((q : ℕ) → q < l.i → set_at (words l.scratch) (l.from + q) ≡ l.m) × Changed (2 * l.from) (2 * (l.from + l.n)) (words l.initial.scratch) (words l.scratch)
