-- Class c's line looked for in a text, line by line. Assumes nothing.
use Rattle.std.specs.Prelude.{◌≡◌, refl, true, false, ◌&&◌, ◌||◌, List, [], ◌∷◌, ◌++◌, ℕ, zero, suc, ◌+◌, ◌*◌, ◌<◌, ◌≤◌, length, get_or, take, drop, eqb}
use Rattle.std.proofs.Common.{sym, ap, ◌∙◌, arith, length-drop, length-take, drop_of_length-le, take-suc, take_all, length-take-le, eq-eqb, ne_eqb}
use Rattle.std.proofs.lemmas.List.{drop-append-le}
use Rattle.rules.specs.Base.{contains}
use Rattle.rules.specs.Text.{row_by, row_of}
use Rattle.meaning.specs.Truth.{any_append, or_none}
use Rattle.states.specs.Masks.{mask_of}
use Rattle.states.specs.MaskLaws.{mask_same, mask_empty}
use Rattle.states.specs.ScanLaws.{on_scan, scan_by, scanned_row, scanned}
use Rattle.text.specs.Rows.{row_at, line_of}

-- the elements of a list, as a set of those below n
abbrev pub set_of : ℕ → List ℕ → ℕ
set_of n l = mask_of n (contains l)

-- ---- one number more
pub set_none : (n : ℕ) → 0 ≡ set_of n []
set_none n = sym (mask_empty n)

contains_more : (l : List ℕ) (x y : ℕ) → contains (l ++ (x ∷ [])) y ≡ contains l y || eqb y x
contains_more l x y = any_append (eqb y) l (x ∷ []) ∙ ap (λ b. contains l y || b) (or_none (eqb y x))

pub set_more : (n : ℕ) (l : List ℕ) (x : ℕ) → mask_of n (λ y. contains l y || eqb y x) ≡ set_of n (l ++ (x ∷ []))
set_more n l x = mask_same n (λ y. contains l y || eqb y x) (contains (l ++ (x ∷ []))) (λ y _. sym (contains_more l x y))

-- what is no element
pub set_beyond : (n : ℕ) (l : List ℕ) (x : ℕ) → n ≤ x → set_of n l ≡ set_of n (l ++ (x ∷ []))
set_beyond n l x h = mask_same n (contains l) (contains (l ++ (x ∷ []))) (λ y k. sym (contains_more l x y ∙ ap (λ b. contains l y || b) (ne_eqb y x (λ e. omega arith)) ∙ or_none (contains l y)))

-- ---- the numbers of a line behind the first two
module _ (n : ℕ) (r : List ℕ) where
  pub numbers_none : 0 ≡ set_of n (drop 2 (take 2 r))
  numbers_none = let h : length (take 2 r) ≤ 2 = omega (arith, length-take 2 r) in set_none n ∙ ap (set_of n) (sym (drop_of_length-le (take 2 r) h))

  pub numbers_more : (k x : ℕ) → 2 ≤ k → k < length r → x ≡ get_or r k 0 → drop 2 (take k r) ++ (x ∷ []) ≡ drop 2 (take (k + 1) r)
  numbers_more k x h q e =
      let s : k + 1 ≡ suc k = omega arith in
      rw (s, take-suc r k 0 q, e) (sym (drop-append-le 2 (take k r) (get_or r k 0 ∷ []) (omega (arith, length-take-le k r (omega arith)))))

  pub numbers_all : (k m : ℕ) → length r ≤ k → m ≡ set_of n (drop 2 (take k r)) → m ≡ set_of n (drop 2 r)
  numbers_all k m h e = e ∙ ap (λ (l : List ℕ). set_of n (drop 2 l)) (take_all k r h)

-- ---- from a line on
pub scan_none : (f : ℕ) (c : ℕ) → scan_by f [] c ≡ []
unfolding scan_by
scan_none zero c = refl
scan_none (suc f) c = refl

scan_step : (f c : ℕ) (s : List ℕ) → 0 < length s → scan_by (suc f) s c ≡ on_scan (λ rest. scan_by f rest c) c (row_of s)
unfolding scan_by
scan_step f c [] h = absurd (omega arith)
scan_step f c (b ∷ s) h = refl

-- what is left from the line at p on is what was looked for
pub record Left (s : List ℕ) (c p : ℕ) (found : List ℕ) : Type 0 where
  pub here : p ≤ length s
  pub fuel : ℕ
  pub enough : length s < fuel + p
  pub rest : found ≡ scan_by fuel (drop p s) c

pub left_first : (s : List ℕ) (c p : ℕ) → p ≤ length s → Left s c p (scan_by (suc (length (drop p s))) (drop p s) c)
left_first s c p h = record { here = h; fuel = suc (length (drop p s)); enough = omega (arith, length-drop p s); rest = refl }

module _ (s : List ℕ) (c p : ℕ) (found : List ℕ) (L : Left s c p found) where
  pub left_end : length s ≤ p → found ≡ []
  left_end h = L.rest ∙ ap (λ (t : List ℕ). scan_by L.fuel t c) (drop_of_length-le s h) ∙ scan_none L.fuel c

  module _ (n : ℕ) (h : p < length s) (e : line_of s p n ≡ row_of (drop p s)) where
    step : (f : ℕ) → L.fuel ≡ suc f → found ≡ on_scan (λ rest. scan_by f rest c) c (line_of s p n)
    step f q = L.rest ∙ ap (λ (k : ℕ). scan_by k (drop p s) c) q ∙ scan_step f c (drop p s) (omega (arith, length-drop p s)) ∙ ap (on_scan (λ rest. scan_by f rest c) c) (sym e)

    some : (f : ℕ) × (L.fuel ≡ suc f)
    some = go L.fuel L.enough
      where
        go : (f : ℕ) → length s < f + p → (g : ℕ) × (f ≡ suc g)
        go zero q = absurd (omega arith)
        go (suc g) q = (g, refl)

    pub left_broken : n ≡ 0 → found ≡ []
    left_broken z = step some.0 some.1 ∙ rw (eq-eqb n 0 z) refl

    module _ (z : n ≡ 0 → ⊥) where
      pub left_found : eqb (get_or (row_at s p n) 0 0) 51 && eqb c (get_or (row_at s p n) 1 0) ≡ true → found ≡ drop 2 (row_at s p n)
      left_found t = step some.0 some.1 ∙ rw (ne_eqb n 0 z, t) refl

      pub left_next : p + 11 * n < length s → eqb (get_or (row_at s p n) 0 0) 51 && eqb c (get_or (row_at s p n) 1 0) ≡ false → Left s c (p + 11 * n + 1) found
      left_next q t = record {
        here = omega arith;
        fuel = some.0;
        enough = omega (arith, L.enough, some.1);
        rest = step some.0 some.1 ∙ rw (ne_eqb n 0 z, t) refl;
      }

-- ---- in the whole text
pub scanned_broken : (s : List ℕ) (c n : ℕ) → n ≡ 0 → line_of s 0 n ≡ row_of (drop 0 s) → scanned s c ≡ []
scanned_broken s c n z e = ap (scanned_row c) (sym e) ∙ rw (eq-eqb n 0 z) refl

pub scanned_empty : (s : List ℕ) (c : ℕ) → length s ≡ 0 → scanned s c ≡ []
unfolding row_of row_by
scanned_empty [] c h = refl
scanned_empty (b ∷ s) c h = absurd (omega arith)

pub scanned_from : (s : List ℕ) (c n p : ℕ) → (n ≡ 0 → ⊥) → line_of s 0 n ≡ row_of (drop 0 s) → p ≡ 11 * n + 1 → scanned s c ≡ scan_by (suc (length (drop p s))) (drop p s) c
scanned_from s c n p z e q =
    let k : 0 + 11 * n + 1 ≡ p = omega arith in
    ap (scanned_row c) (sym e) ∙ rw (ne_eqb n 0 z, k) refl
