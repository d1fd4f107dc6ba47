-- A line's numbers as words. Assumes nothing.
use mathlib.Core.Path.{◌≡◌, ap, ◌∙◌}
use mathlib.Core.List.{List}
use Prim.Native.Nat.{ℕ, ◌+◌, ◌<◌, ◌≤◌}
use native.Mathlib.Numerals.{add-one}
use native.Mathlib.Omega.{arith}
use lib.ListN.{length, get_or, set, take}
use lib.Seq.{sets, take-suc, take_all, length-take-le}
use Rattle.words.specs.Runs.{sets_snoc}
use Rattle.rules.specs.Text.{most_number}
use Rattle.rules.specs.TextLaws.{each_get_d}
use Rattle.rules.specs.Invariants.{Each}

-- the first i of the numbers r are there
pub record Putting (w₀ : List ℕ) (at : ℕ) (r : List ℕ) (i : ℕ) (w : List ℕ) : Type 0 where
  pub within : i ≤ length r
  pub stored : w ≡ sets w₀ at (take i r)

pub putting_next : (w₀ : List ℕ) (at : ℕ) (r : List ℕ) (i : ℕ) (w : List ℕ) → Putting w₀ at r i w → i < length r → (x : ℕ) → x ≡ get_or r i 0 → (w' : List ℕ) → w' ≡ set w (at + i) x → Putting w₀ at r (i + 1) w'
putting_next w₀ at r i w P l x e w' q =
    let t : length (take i r) ≡ i = length-take-le i r (omega arith) in
    let a : at + i ≡ at + length (take i r) = omega arith in
    record {
      within = omega arith;
      stored = q ∙ rw (P.stored, e, add-one i, take-suc r i 0 l, a) (sets_snoc (take i r) w₀ at (get_or r i 0));
    }

pub putting_end : (w₀ : List ℕ) (at : ℕ) (r : List ℕ) (i : ℕ) (w : List ℕ) → Putting w₀ at r i w → length r ≤ i → w ≡ sets w₀ at r
putting_end w₀ at r i w P l = P.stored ∙ ap (sets w₀ at) (take_all i r l)

pub number_fits : (r : List ℕ) (i x : ℕ) → Each (λ n. n ≤ most_number) r → x ≡ get_or r i 0 → x ≤ most_number
number_fits r i x h e = rw e (each_get_d (λ (n : ℕ). n ≤ most_number) r i 0 h (omega arith))
