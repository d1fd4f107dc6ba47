-- The search by the tables: with each element the sets of the places behind it are narrowed.
use Rattle.std.specs.Prelude.{◌≡◌, Bool, ◌&&◌, List, [], ℕ, zero, suc, ◌+◌, ◌≤◌, ◌<◌, get_or, take, drop}
use Rattle.std.specs.Prelude as Code
use Rattle.std.proofs.Math.Option.{Option, none, some}
use Rattle.ir.specs.Pick.{pick}
use Rattle.states.specs.Conditions.{rises, behind, first_of}
use Rattle.states.specs.Masks.{mask_of}

-- k elements, as the code has them: the first ones, or those from place j on
abbrev pub found_in : ℕ → Code.Option (List ℕ) → Option (List ℕ)
found_in k (Code.Some l) = some (take k l)
found_in k Code.None = none

abbrev pub found_from : ℕ → ℕ → Code.Option (List ℕ) → Option (List ℕ)
found_from j k (Code.Some l) = some (take k (drop j l))
found_from j k Code.None = none

-- the sets of the places from j on and before `end`
abbrev pub Fits : ℕ → ℕ → ℕ → (ℕ → ℕ → Bool) → List ℕ → Type 0
Fits n j end F l = (i : ℕ) → j ≤ i → i < end → get_or l i 0 ≡ mask_of n (F i)

-- what fits at each place, with x at place j
abbrev pub narrowed : (ℕ → ℕ → ℕ → ℕ → Bool) → ℕ → ℕ → (ℕ → ℕ → Bool) → ℕ → ℕ → Bool
narrowed two j x F q y = F q y && two j q x y

-- the least k elements from place j on
unfoldable pub search_by : (n : ℕ) (two : ℕ → ℕ → ℕ → ℕ → Bool) (k j : ℕ) → (ℕ → ℕ → Bool) → Option (List ℕ)
search_by n two zero j F = some []
search_by n two (suc k) j F = first_of (λ x. pick (F j x) (behind x (search_by n two k (j + 1) (narrowed two j x F))) none) (rises 0 n)

-- those that begin with x
abbrev pub search_at : (n : ℕ) (two : ℕ → ℕ → ℕ → ℕ → Bool) (k j : ℕ) → (ℕ → ℕ → Bool) → ℕ → Option (List ℕ)
search_at n two k j F x = pick (F j x) (behind x (search_by n two k (j + 1) (narrowed two j x F))) none
