-- The table of maps: each role code is followed to what the second reading says, on rings too. Assumes nothing.
use Rattle.std.specs.Prelude.{◌≡◌, refl, List, [], ◌∷◌, map, ℕ, zero, suc, length}
use Rattle.ir.specs.Roles.{role_code, role_of}
use Rattle.rules.specs.Inverse.{InverseCanon, lookup, canon_role, ids_from, follow_by, follow}
use Rattle.rules.specs.FollowedMaps.{followed_maps}

abbrev pub map_of : List (ℕ × ℕ) → InverseCanon
map_of l = map (λ (p : ℕ × ℕ). record { key = p.0; value = role_of p.1 }) l

-- of the n codes from c on
unfoldable pub ends_from : InverseCanon → ℕ → ℕ → List ℕ
ends_from m c zero = []
ends_from m c (suc n) = role_code (follow m (role_of c)) ∷ ends_from m (suc c) n

pub followed_hold : map (λ c. ends_from (map_of c.map) 0 (length c.ends)) followed_maps ≡ map (λ c. c.ends) followed_maps
unfolding follow_by ids_from lookup canon_role ends_from
followed_hold = refl
