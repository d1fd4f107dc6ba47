-- A set that is put is there, and every other stays. Assumes nothing.
use Rattle.std.specs.Prelude.{◌≡◌, List, [], ◌∷◌, ℕ, ◌+◌, ◌*◌, ◌/◌, ◌%◌, ◌<◌, ◌≤◌, length, get_or}
use Rattle.std.proofs.Common.{sym, ap, ap₂, ◌∙◌, arith, add-zero}
use Rattle.words.specs.Runs.{get_d_sets_in, get_d_sets_before, get_d_sets_after}
use Rattle.sets.specs.Kept.{set_at, set_put}

module _ (w : List ℕ) (i m : ℕ) where
  abbrev pair : List ℕ
  pair = (m % 4294967296) ∷ (m / 4294967296) ∷ []

  pub set_put_lem : 2 * i + 2 ≤ length w → set_at (set_put w i m) i ≡ m
  set_put_lem h =
      let a : get_or (set_put w i m) (2 * i) 0 ≡ m % 4294967296 = ap (λ (k : ℕ). get_or (set_put w i m) k 0) (sym (add-zero (2 * i))) ∙ get_d_sets_in pair w (2 * i) 0 0 (omega arith) h in
      let b : get_or (set_put w i m) (2 * i + 1) 0 ≡ m / 4294967296 = get_d_sets_in pair w (2 * i) 1 0 (omega arith) h in
      omega (arith, a, b)

  -- every other word
  pub word_before : (k : ℕ) → k < 2 * i → get_or (set_put w i m) k 0 ≡ get_or w k 0
  word_before k h = get_d_sets_before pair w (2 * i) k 0 h

  pub word_behind : (k : ℕ) → 2 * i + 2 ≤ k → get_or (set_put w i m) k 0 ≡ get_or w k 0
  word_behind k h = get_d_sets_after pair w (2 * i) k 0 h

  -- every other set
  pub set_before : (j : ℕ) → j < i → set_at (set_put w i m) j ≡ set_at w j
  set_before j h = ap₂ (λ (a b : ℕ). a + 4294967296 * b) (word_before (2 * j) (omega arith)) (word_before (2 * j + 1) (omega arith))

  pub set_behind_lem : (j : ℕ) → i < j → set_at (set_put w i m) j ≡ set_at w j
  set_behind_lem j h = ap₂ (λ (a b : ℕ). a + 4294967296 * b) (word_behind (2 * j) (omega arith)) (word_behind (2 * j + 1) (omega arith))

-- sets whose words are the same
pub set_same : (w v : List ℕ) (i : ℕ) → get_or v (2 * i) 0 ≡ get_or w (2 * i) 0 → get_or v (2 * i + 1) 0 ≡ get_or w (2 * i + 1) 0 → set_at v i ≡ set_at w i
set_same w v i a b = ap₂ (λ (x y : ℕ). x + 4294967296 * y) a b
