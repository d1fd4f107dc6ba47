-- The place of a variable among those bound, and the search for it. Assumes nothing.
use Rattle.std.specs.Prelude.{Bool, true, false, ◌||◌, ◌≡◌, List, [], ◌∷◌, ◌++◌, get_or, drop, eqb}
use Rattle.std.proofs.Math.Path.{refl}
use Rattle.std.proofs.Common.{length-drop, length-take-le}
use Prim.Native.Nat.{ℕ, suc, ◌≤◌, ◌<◌}
use native.Mathlib.Omega.{arith}
use borrow.Author.Tests.{eqb-true}
use Rattle.std.proofs.Math.ListN.{length}
use Rattle.rules.specs.Base.{contains}
use Rattle.rules.specs.Branches.{place_in, place_of}
use Rattle.rules.specs.DeckLaws.{same_eqb}
use Rattle.branches.specs.Layout.{bound_at, work_words}
use Rattle.trees.specs.Growth.{bound_of}

-- ---- found or not
pub place_in_lem : (l : List ℕ) (v : ℕ) → place_of l v < length l → (contains l v ≡ true) × (get_or l (place_of l v) 0 ≡ v)
unfolding place_of
place_in_lem [] v h = absurd (omega arith)
place_in_lem (u ∷ l) v h = rw (same_eqb v u) (go (eqb u v) (place_in_lem l v) refl h)
  where
    go : (b : Bool) → (place_of l v < length l → (contains l v ≡ true) × (get_or l (place_of l v) 0 ≡ v)) → eqb u v ≡ b → place_in b (place_of l v) < suc (length l) → ((b || contains l v) ≡ true) × (get_or (u ∷ l) (place_in b (place_of l v)) 0 ≡ v)
    go true f e k = (refl, eqb-true u v e)
    go false f e k = f (omega arith)

-- ---- what is not among them
pub not_first : (l : List ℕ) (v : ℕ) → contains l v ≡ false → 1 ≤ length l → eqb v (get_or l 0 0) ≡ false
not_first [] v h k = absurd (omega arith)
not_first (u ∷ l) v h k = go (eqb v u) h
  where
    go : (b : Bool) → (b || contains l v) ≡ false → b ≡ false
    go true e = e
    go false e = refl

pub not_more : (l : List ℕ) (v x : ℕ) → contains (l ++ (v ∷ [])) x ≡ false → (contains l x ≡ false) × (eqb x v ≡ false)
not_more [] v x h = go (eqb x v) h
  where
    go : (b : Bool) → (b || false) ≡ false → (false ≡ false) × (b ≡ false)
    go true e = (refl, e)
    go false e = (refl, refl)
not_more (u ∷ l) v x h = go (eqb x u) (not_more l v x) h
  where
    go : (b : Bool) → (contains (l ++ (v ∷ [])) x ≡ false → (contains l x ≡ false) × (eqb x v ≡ false)) → (b || contains (l ++ (v ∷ [])) x) ≡ false → ((b || contains l x) ≡ false) × (eqb x v ≡ false)
    go true f e = absurd (let z : ◌≡◌ {A = ℕ} 0 1 = cc in omega arith)
    go false f e = f e

pub bound_long : (w : List ℕ) (n : ℕ) → n ≤ 257 → work_words ≤ length w → length (bound_of w n) ≡ n
bound_long w n few long = length-take-le n (drop bound_at w) (omega (arith, length-drop bound_at w))
