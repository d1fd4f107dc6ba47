-- The loop over a line's pairs, the last one first. Assumes nothing.
use mathlib.Core.Path.{◌≡◌, refl, sym, ap, subst, ◌∙◌}
use mathlib.Core.Bool.{Bool, true}
use mathlib.Core.List.{List, ◌∷◌}
use Prim.Native.Nat.{ℕ, ◌+◌, ◌*◌, ◌-◌, ◌/◌, ◌<◌, ◌≤◌}
use native.Mathlib.Omega.{arith}
use lib.Dec.{ltb}
use lib.ListN.{length, get_or, drop, length-drop}
use Rattle.rules.specs.Base.{all}
use Rattle.words.specs.Words.{words}
use Rattle.sets.specs.Places.{line_at}
use Rattle.sets.specs.Laid.{KeptTo}
use Rattle.layouts.specs.Lines.{line_in, LineThere, rows_word}
use Rattle.layouts.specs.Drawn.{RowsAs, with_pair, with_pairs}
use Rattle.layouts.proofs.NumberLaws.{line_length, line_number, two_next}
use Rattle.layouts.proofs.Links.{number_below, pairs_begun, pairs_more}

-- a number that the rows' words leave alone
pub number_kept : (v v' : List ℕ) (n k : ℕ) → n ≤ 40960 → k < n → KeptTo rows_word v v' → get_or (line_in v' n) k 0 ≡ get_or (line_in v n) k 0
number_kept v v' n k h q e = sym (line_number v' n k q) ∙ e (line_at + k) (omega arith) ∙ line_number v n k q

-- j pairs are left
pub record Pairing (s₀ : List ℕ) (n role size : ℕ) (s : List ℕ) (j : ℕ) : Type 0 where
  pub some : 1 ≤ j
  pub fits : 2 * j ≤ n
  pub long : length s ≡ length s₀
  pub kept : KeptTo rows_word (words s₀) (words s)
  pub rows : (roles : ℕ) (f : ℕ → ℕ → ℕ → Bool) → RowsAs size roles (words s₀) f → RowsAs size roles (words s) (with_pairs f role (drop (2 * j) (line_in (words s₀) n)))

module _ (s₀ : List ℕ) (n role size : ℕ) (T : LineThere s₀ n) where
  pub pairing_first : 2 ≤ n → Pairing s₀ n role size s₀ (n / 2)
  pairing_first h = record {
    some = omega arith;
    fits = omega arith;
    long = refl;
    kept = λ i _. refl;
    rows = λ roles f R. pairs_begun size roles (words s₀) f role (drop (2 * (n / 2)) (line_in (words s₀) n)) short R;
  }
    where
      short : length (drop (2 * (n / 2)) (line_in (words s₀) n)) < 2
      short = let l = line_length s₀ n T in let d = length-drop (2 * (n / 2)) (line_in (words s₀) n) in omega (arith, l, d)

  module _ (s : List ℕ) (j : ℕ) (P : Pairing s₀ n role size s j) (some : 1 < j) (below : all (λ e. ltb e size) (drop 2 (line_in (words s₀) n)) ≡ true)
      (a b : ℕ) (ea : a ≡ get_or (line_in (words s) n) (2 * (j - 1)) 0) (eb : b ≡ get_or (line_in (words s) n) (2 * (j - 1) + 1) 0) where
    first : a ≡ get_or (line_in (words s₀) n) (2 * (j - 1)) 0
    first = ea ∙ number_kept (words s₀) (words s) n (2 * (j - 1)) T.1 (omega (arith, P.fits)) P.kept

    second : b ≡ get_or (line_in (words s₀) n) (2 * (j - 1) + 1) 0
    second = eb ∙ number_kept (words s₀) (words s) n (2 * (j - 1) + 1) T.1 (omega (arith, P.fits)) P.kept

    pub first_below : a < size
    first_below =
        let l = line_length s₀ n T in
        let x = number_below (line_in (words s₀) n) size (2 * (j - 1)) below (omega arith) (omega (arith, l, P.fits)) in
        omega (arith, first, x)

    pub second_below : b < size
    second_below =
        let l = line_length s₀ n T in
        let x = number_below (line_in (words s₀) n) size (2 * (j - 1) + 1) below (omega arith) (omega (arith, l, P.fits)) in
        omega (arith, second, x)

    pub pairing_more : (s' : List ℕ) → size ≤ 64 → length s' ≡ length s → KeptTo rows_word (words s) (words s')
        → ((m roles : ℕ) (f : ℕ → ℕ → ℕ → Bool) → m ≤ 64 → a < m → b < m → RowsAs m roles (words s) f → RowsAs m roles (words s') (with_pair f role a b))
        → Pairing s₀ n role size s' (j - 1)
    pairing_more s' few long kept linked = record {
      some = omega arith;
      fits = omega (arith, P.fits);
      long = long ∙ P.long;
      kept = λ i h. kept i h ∙ P.kept i h;
      rows = λ roles f R. subst (λ (l : List ℕ). RowsAs size roles (words s') (with_pairs f role l)) (sym here) (pairs_more size roles (words s') f role a b (drop (2 * j) (line_in (words s₀) n)) (linked size roles (with_pairs f role (drop (2 * j) (line_in (words s₀) n))) few first_below second_below (P.rows roles f R)));
    }
      where
        here : drop (2 * (j - 1)) (line_in (words s₀) n) ≡ a ∷ b ∷ drop (2 * j) (line_in (words s₀) n)
        here =
            let l = line_length s₀ n T in
            let y : 2 * (j - 1) + 2 ≡ 2 * j = omega arith in
            two_next (line_in (words s₀) n) (2 * (j - 1)) a b (omega (arith, l, P.fits)) first second
            ∙ ap (λ (k : ℕ). a ∷ b ∷ drop k (line_in (words s₀) n)) y
