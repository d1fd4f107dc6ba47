-- The place of a number in a list, and the search for it in the words of scratch.
use Rattle.std.specs.Prelude.{◌≡◌, true, false, Option, Some, None, List, ℕ, ◌<◌, length}
use Rattle.rules.specs.Base.{contains}
use Rattle.rules.specs.Branches.{place_of}

-- its first place, or it is not there
abbrev pub PlaceIs : List ℕ → ℕ → Option ℕ → Type 0
PlaceIs l v (Some i) = (i < length l) × (i ≡ place_of l v) × (contains l v ≡ true)
PlaceIs l v None = contains l v ≡ false
