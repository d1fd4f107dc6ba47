-- The search by the tables: one element more, the loop over the elements, the last variable. Assumes nothing.
use mathlib.Core.Path.{◌≡◌, refl, sym, ap, subst, ◌∙◌}
use mathlib.Core.Bool.{Bool, true, false, not, ◌&&◌}
use mathlib.Core.List.{List, [], ◌∷◌}
use mathlib.Core.Option.{Option, none, some}
use Prim.Native.Nat.{ℕ, zero, suc, ◌+◌, ◌-◌, ◌<◌, ◌≤◌}
use native.Mathlib.Omega.{arith}
use lib.ListN.{length, get_or, set, take, drop}
use lib.Seq.{get_or-set_other}
use Rattle.std.proofs.lemmas.List.{drop-set, get_or-set_same}
use Rattle.std.proofs.lemmas.Bool.{false≢true}
use lib.Dec.{eqb, ltb}
use borrow.Author.Tests.{eq-eqb, ne_eqb, ltb-true, ltb-false}
use Rattle.std.specs.Prelude as Code
use Rattle.ir.specs.Pick.{pick}
use Rattle.rules.specs.Base.{all}
use Rattle.meaning.specs.Truth.{by_truth}
use Rattle.states.specs.Conditions.{rises, or_else, behind, first_of}
use Rattle.states.specs.Masks.{mask_of, mask_none}
use Rattle.states.specs.ChainLaws.{first_where, first_where_lem}
use Rattle.sets.specs.Kept.{set_at}
use Rattle.clausetests.specs.Fitting.{Twos, pair_at}
use Rattle.clausetests.specs.Search.{found_in, found_from, narrowed, search_by, search_at, Fits}

-- ---- x at place j of what was found behind it
pub found_more : (k x j : ℕ) (l : List ℕ) → j < length l → take (suc k) (drop j (set l j x)) ≡ x ∷ take k (drop (j + 1) l)
found_more k x j l h = ap (take (suc k)) (drop-set l j x h)

pub found_one : (x j : ℕ) (l : List ℕ) → j < length l → some (take 1 (drop j (set l j x))) ≡ some (x ∷ [])
found_one x j l h = ap some (found_more 0 x j l h)

-- from the first place on
pub found_first : (k : ℕ) (o : Code.Option (List ℕ)) → found_in k o ≡ found_from 0 k o
found_first k (Code.Some l) = refl
found_first k Code.None = refl

module _ (n : ℕ) (two : ℕ → ℕ → ℕ → ℕ → Bool) (k j : ℕ) (F : ℕ → ℕ → Bool) where
  -- ---- the loop: what begins with x or a later element
  abbrev pub scan_from : ℕ → Option (List ℕ)
  scan_from x = first_of (search_at n two k j F) (rises x (n - x))

  pub scan_start : search_by n two (suc k) j F ≡ scan_from 0
  unfolding search_by
  scan_start = let e : n ≡ n - 0 = omega arith in ap (λ (m : ℕ). first_of (search_at n two k j F) (rises 0 m)) e

  scan_next : (x : ℕ) → x < n → scan_from x ≡ or_else (search_at n two k j F x) (scan_from (x + 1))
  unfolding rises
  scan_next x h =
      let e : n - x ≡ suc (n - (x + 1)) = omega arith in
      let f : suc x ≡ x + 1 = omega arith in
      rw (e, ← f) refl

  module _ (x : ℕ) (h : x < n) (i : search_by n two (suc k) j F ≡ scan_from x) where
    -- x does not fit
    pub scan_past : false ≡ F j x → search_by n two (suc k) j F ≡ scan_from (x + 1)
    scan_past e = i ∙ scan_next x h ∙ ap (λ b. or_else (pick b (behind x (search_by n two k (j + 1) (narrowed two j x F))) none) (scan_from (x + 1))) (sym e)

    -- nothing is found behind it
    pub scan_on : true ≡ F j x → none ≡ search_by n two k (j + 1) (narrowed two j x F) → search_by n two (suc k) j F ≡ scan_from (x + 1)
    scan_on e r = i ∙ scan_next x h ∙ ap (λ b. or_else (pick b (behind x (search_by n two k (j + 1) (narrowed two j x F))) none) (scan_from (x + 1))) (sym e) ∙ ap (λ o. or_else (behind x o) (scan_from (x + 1))) (sym r)

    pub scan_found : true ≡ F j x → (l : List ℕ) → some l ≡ search_by n two k (j + 1) (narrowed two j x F) → some (x ∷ l) ≡ search_by n two (suc k) j F
    scan_found e l r = sym (i ∙ scan_next x h ∙ ap (λ b. or_else (pick b (behind x (search_by n two k (j + 1) (narrowed two j x F))) none) (scan_from (x + 1))) (sym e) ∙ ap (λ o. or_else (behind x o) (scan_from (x + 1))) (sym r))

  pub scan_out : (x : ℕ) → n ≤ x → search_by n two (suc k) j F ≡ scan_from x → none ≡ search_by n two (suc k) j F
  unfolding rises
  scan_out x h i = let e : n - x ≡ 0 = omega arith in sym (i ∙ rw e refl)

-- ---- a place that nothing fits
none_where : (p : ℕ → Bool) (h : ℕ → Option (List ℕ)) (l : List ℕ) → all (λ x. not (p x)) l ≡ true → first_of (λ x. pick (p x) (h x) none) l ≡ none
none_where p h [] e = refl
none_where p h (x ∷ l) e = go (none_where p h l) (p x) e
  where
    go : (all (λ y. not (p y)) l ≡ true → first_of (λ y. pick (p y) (h y) none) l ≡ none) → (b : Bool) → not b && all (λ y. not (p y)) l ≡ true → or_else (pick b (h x) none) (first_of (λ y. pick (p y) (h y) none) l) ≡ none
    go rest true e = absurd (false≢true e)
    go rest false e = rest e

pub none_fits : (n : ℕ) (two : ℕ → ℕ → ℕ → ℕ → Bool) (k j : ℕ) (F : ℕ → ℕ → Bool) (m : ℕ) → m ≡ mask_of n (F j) → m ≡ 0 → none ≡ search_by n two (suc k) j F
unfolding search_by
none_fits n two k j F m e z =
    sym (none_where (F j) (λ x. behind x (search_by n two k (j + 1) (narrowed two j x F))) (rises 0 n) (sym (mask_none n (F j)) ∙ eq-eqb (mask_of n (F j)) 0 (sym e ∙ z)))

-- ---- the last variable
module _ (n : ℕ) (two : ℕ → ℕ → ℕ → ℕ → Bool) (j : ℕ) (F : ℕ → ℕ → Bool) where
  last : search_by n two 1 j F ≡ pick (eqb (mask_of n (F j)) 0) none (some (first_where (F j) (rises 0 n) ∷ []))
  unfolding search_by
  last = first_where_lem (F j) (λ x. x ∷ []) (rises 0 n) ∙ ap (λ b. pick {A = Option (List ℕ)} b none (some (first_where (F j) (rises 0 n) ∷ []))) (sym (mask_none n (F j)))

  pub last_some : (m x : ℕ) → m ≡ mask_of n (F j) → (m ≡ 0 → ⊥) → x ≡ first_where (F j) (rises 0 n) → some (x ∷ []) ≡ search_by n two 1 j F
  last_some m x e z q = sym (last ∙ rw (ne_eqb (mask_of n (F j)) 0 (λ w. z (e ∙ w)), ← q) refl)

-- ---- no variable
pub none_left : (n : ℕ) (two : ℕ → ℕ → ℕ → ℕ → Bool) (k : ℕ) (F : ℕ → ℕ → Bool) (l : List ℕ) → k ≡ 0 → some (take k l) ≡ search_by n two k 0 F
unfolding search_by
none_left n two k F l e = rw e refl

-- ---- the sets of four places
pub fits_four : (n end a b c d : ℕ) (F : ℕ → ℕ → Bool) → end ≤ 4 → (0 < end → a ≡ mask_of n (F 0)) → (1 < end → b ≡ mask_of n (F 1)) → (2 < end → c ≡ mask_of n (F 2)) → (3 < end → d ≡ mask_of n (F 3)) → Fits n 0 end F (a ∷ b ∷ c ∷ d ∷ [])
fits_four n end a b c d F l ea eb ec ed zero _ h = ea h
fits_four n end a b c d F l ea eb ec ed (suc zero) _ h = eb h
fits_four n end a b c d F l ea eb ec ed (suc (suc zero)) _ h = ec h
fits_four n end a b c d F l ea eb ec ed (suc (suc (suc zero))) _ h = ed h
fits_four n end a b c d F l ea eb ec ed (suc (suc (suc (suc i)))) _ h = absurd (omega arith)

-- ---- the sets narrowed by x at place j, before place i
module _ (n end : ℕ) (two : ℕ → ℕ → ℕ → ℕ → Bool) (F : ℕ → ℕ → Bool) (v : List ℕ) (j x : ℕ) (h : x < n) (T : Twos n end two v) (l : List ℕ) (S : Fits n (j + 1) end F l) where
  pub fits_next : (i : ℕ) (fits : List ℕ) (r m : ℕ) → j < i → i < end → i < length fits → ((q : ℕ) → i ≤ q → get_or fits q 0 ≡ get_or l q 0) → r ≡ set_at v (pair_at j i + x) → ((n : ℕ) (f g : ℕ → Bool) → get_or fits i 0 ≡ mask_of n f → r ≡ mask_of n g → m ≡ mask_of n (λ y. f y && g y))
      → Fits n (j + 1) i (narrowed two j x F) fits → Fits n (j + 1) (i + 1) (narrowed two j x F) (set fits i m)
  fits_next i fits r m lo hi long same er E N q a b = by_truth (ltb q i)
      (λ t. let c = ltb-true q i t in get_or-set_other fits i q m 0 (λ z. absurd (omega arith)) ∙ N q a c)
      (λ t. let c = ltb-false q i t in
      let z : i ≡ q = omega arith in
      subst (λ (p : ℕ). get_or (set fits i m) p 0 ≡ mask_of n (narrowed two j x F p)) z
      (get_or-set_same fits i m 0 long ∙ E n (F i) (two j i x) (same i (omega arith) ∙ S i (omega arith) hi) (er ∙ T j i x lo hi h)))
