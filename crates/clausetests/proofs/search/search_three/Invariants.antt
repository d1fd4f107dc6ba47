use Rattle.std.proofs.Common.{◌≡◌, ℕ, Bool, ◌+◌}
use Rattle.words.specs.Words.{words}
use Rattle.states.specs.Masks.{mask_of}
use Rattle.clausetests.specs.Fitting.{Twos}
use Rattle.clausetests.specs.Search.{search_by}
use Rattle.clausetests.proofs.SearchLaws.{scan_from}
use Rattle.clausetests.proofs.search.search_three.Given as goal

abbrev pub invariant-loop-x : goal.invariant-loop-x
invariant-loop-x l =
    (two : ℕ → ℕ → ℕ → ℕ → Bool) (F : ℕ → ℕ → Bool) → Twos l.size (l.j + 3) two (words l.scratch) → l.here ≡ mask_of l.size (F l.j) → l.next ≡ mask_of l.size (F (l.j + 1)) → l.last ≡ mask_of l.size (F (l.j + 2))
    → search_by l.size two 3 l.j F ≡ scan_from l.size two 2 l.j F l.x
