use Rattle.std.proofs.Common.{◌≡◌, Bool, ℕ, suc, ◌-◌}
use Rattle.words.specs.Words.{words}
use Rattle.clausetests.specs.Fitting.{Twos}
use Rattle.clausetests.specs.Search.{search_by, Fits}
use Rattle.clausetests.proofs.SearchLaws.{scan_from}
use Rattle.clausetests.proofs.search.+search_from.Given as goal

abbrev pub decreases-search_from : goal.decreases-search_from
decreases-search_from l = l.end - l.j

abbrev pub invariant-loop-x : goal.invariant-loop-x
invariant-loop-x l =
    (two : ℕ → ℕ → ℕ → ℕ → Bool) (F : ℕ → ℕ → Bool) → Twos l.size l.end two (words l.scratch) → Fits l.size l.j l.end F l.fits
    → search_by l.size two (suc (l.end - suc l.j)) l.j F ≡ scan_from l.size two (l.end - suc l.j) l.j F l.x
