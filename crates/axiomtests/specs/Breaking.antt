-- The least breaking assignment as the code has it, and what the search leaves alone in the words of scratch.
use Rattle.std.specs.Prelude.{◌≡◌, List, ℕ, Option, Some, None, ◌≤◌, length, get_or}
use Rattle.std.proofs.Math.Option as Told
use Rattle.sets.specs.Places.{shown_at, line_at}
use Rattle.sets.specs.Laid.{KeptTo}
use Rattle.sets.specs.Verdicts.{shown}

abbrev pub least_in : List ℕ → Option ℕ → Told.Option (List ℕ)
least_in v None = Told.none
least_in v (Some k) = Told.some (shown v k)

-- only the elements that are shown and the sets of a chain are written
pub record Aside (v v' : List ℕ) : Type 0 where
  pub long : length v' ≡ length v
  pub before : KeptTo shown_at v v'
  pub behind : (i : ℕ) → line_at ≤ i → get_or v' i 0 ≡ get_or v i 0
