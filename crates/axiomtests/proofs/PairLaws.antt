-- The least pair that breaks a test, by the set of the second elements for each first one. Assumes nothing.
use mathlib.Core.Path.{◌≡◌, refl, sym, ap, ◌∙◌}
use mathlib.Core.Bool.{Bool, not}
use mathlib.Core.List.{List, [], ◌∷◌}
use mathlib.Core.Option.{Option, none, some}
use Prim.Native.Nat.{ℕ, zero, suc, ◌+◌, ◌-◌, ◌<◌, ◌≤◌}
use native.Mathlib.Omega.{arith}
use lib.Dec.{eqb}
use borrow.Author.Tests.{eq-eqb, ne_eqb}
use Rattle.ir.specs.Pick.{pick}
use Rattle.states.specs.Conditions.{rises, or_else, behind, first_of, least_of}
use Rattle.states.specs.Masks.{mask_of}
use Rattle.states.specs.MaskLaws.{least_one}
use Rattle.states.specs.ChainLaws.{first_where}

-- ---- nothing at the first k
pub first_from : (f : ℕ → Option (List ℕ)) (a k m : ℕ) → ((y : ℕ) → a ≤ y → y < a + k → f y ≡ none) → first_of f (rises a (k + m)) ≡ first_of f (rises (a + k) m)
unfolding rises
first_from f a zero m h = let e : 0 + m ≡ m = omega arith in let g : a + 0 ≡ a = omega arith in rw (e, g) refl
first_from f a (suc k) m h =
    let e : suc k + m ≡ suc (k + m) = omega arith in
    let g : a + suc k ≡ suc a + k = omega arith in
    ap (λ (i : ℕ). first_of f (rises a i)) e ∙ ap (λ o. or_else o (first_of f (rises (suc a) (k + m)))) (h a (omega arith) (omega arith)) ∙ first_from f (suc a) k m (λ y p q. h y (omega arith) (omega arith)) ∙ ap (λ (i : ℕ). first_of f (rises i m)) (sym g)

pub first_skip : (f : ℕ → Option (List ℕ)) (n x : ℕ) → x ≤ n → ((y : ℕ) → y < x → f y ≡ none) → first_of f (rises 0 n) ≡ first_of f (rises x (n - x))
first_skip f n x h g =
    let e : n ≡ x + (n - x) = omega arith in
    let z : 0 + x ≡ x = omega arith in
    ap (λ (k : ℕ). first_of f (rises 0 k)) e ∙ first_from f 0 x (n - x) (λ y _ q. g y (omega arith)) ∙ ap (λ (k : ℕ). first_of f (rises k (n - x))) z

pub first_here : (f : ℕ → Option (List ℕ)) (n x : ℕ) (l : List ℕ) → x < n → ((y : ℕ) → y < x → f y ≡ none) → f x ≡ some l → first_of f (rises 0 n) ≡ f x
unfolding rises
first_here f n x l h g e = first_skip f n x (omega arith) g ∙ here (n - x) (omega arith)
  where
    here : (m : ℕ) → 0 < m → first_of f (rises x m) ≡ f x
    here zero q = absurd (omega arith)
    here (suc m) q = rw e refl

pub first_nowhere : (f : ℕ → Option (List ℕ)) (n : ℕ) → ((y : ℕ) → y < n → f y ≡ none) → first_of f (rises 0 n) ≡ none
unfolding rises
first_nowhere f n g = first_skip f n n (omega arith) g ∙ end (n - n) (omega arith)
  where
    end : (m : ℕ) → m ≡ 0 → first_of f (rises n m) ≡ none
    end zero q = refl
    end (suc m) q = absurd (omega arith)

-- ---- pairs
module _ (n : ℕ) (t : List ℕ → Bool) where
  -- the set behind x
  abbrev set_behind : ℕ → ℕ
  set_behind x = mask_of n (λ y. not (t (x ∷ y ∷ [])))

  one_behind : (x : ℕ) → least_of (rises 0 n) 1 (λ l. t (x ∷ l)) ≡ pick (eqb (set_behind x) 0) none (some (first_where (λ y. not (t (x ∷ y ∷ []))) (rises 0 n) ∷ []))
  one_behind x = least_one n (λ l. t (x ∷ l)) (λ y. not (t (x ∷ y ∷ []))) (λ _ _. refl)

  none_behind : (x : ℕ) → 0 ≡ set_behind x → behind x (least_of (rises 0 n) 1 (λ l. t (x ∷ l))) ≡ none
  none_behind x e = ap (behind x) (one_behind x ∙ ap (λ b. pick {A = Option (List ℕ)} b none (some (first_where (λ y. not (t (x ∷ y ∷ []))) (rises 0 n) ∷ []))) (eq-eqb (set_behind x) 0 (sym e)))

  pub pair_here : (x m : ℕ) → x < n → ((y : ℕ) → y < x → 0 ≡ set_behind y) → m ≡ set_behind x → (m ≡ 0 → ⊥) → least_of (rises 0 n) 2 t ≡ behind x (least_of (rises 0 n) 1 (λ l. t (x ∷ l)))
  unfolding least_of
  pair_here x m h g e d =
      first_here (λ y. behind y (least_of (rises 0 n) 1 (λ l. t (y ∷ l)))) n x (x ∷ first_where (λ y. not (t (x ∷ y ∷ []))) (rises 0 n) ∷ []) h (λ y q. none_behind y (g y q))
      (ap (behind x) (one_behind x ∙ ap (λ b. pick {A = Option (List ℕ)} b none (some (first_where (λ y. not (t (x ∷ y ∷ []))) (rises 0 n) ∷ []))) (ne_eqb (set_behind x) 0 (λ z. d (e ∙ z)))))

  pub pair_nowhere : ((y : ℕ) → y < n → 0 ≡ set_behind y) → least_of (rises 0 n) 2 t ≡ none
  unfolding least_of
  pair_nowhere g = first_nowhere (λ y. behind y (least_of (rises 0 n) 1 (λ l. t (y ∷ l)))) n (λ y q. none_behind y (g y q))
