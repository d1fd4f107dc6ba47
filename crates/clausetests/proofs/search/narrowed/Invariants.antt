use Rattle.std.proofs.Common.{◌≡◌, ℕ, Bool, ◌+◌, ◌<◌, ◌≤◌, length, get_or}
use Rattle.words.specs.Words.{words}
use Rattle.clausetests.specs.Fitting.{Twos}
use Rattle.clausetests.specs.Search.{narrowed, Fits}
use Rattle.clausetests.proofs.search.narrowed.Given as goal

abbrev pub invariant-loop-i : goal.invariant-loop-i
invariant-loop-i l =
    (length l.fits ≡ 4)
    × ((q : ℕ) → l.i ≤ q → get_or l.fits q 0 ≡ get_or l.fn.fits q 0)
    × ((n : ℕ) (two : ℕ → ℕ → ℕ → ℕ → Bool) (F : ℕ → ℕ → Bool) → l.x < n → Twos n l.end two (words l.scratch) → Fits n (l.j + 1) l.end F l.fn.fits → Fits n (l.j + 1) l.i (narrowed two l.j l.x F) l.fits)
