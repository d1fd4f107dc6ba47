-- Laws of tabulated lists. Assumes nothing.
use Rattle.std.specs.Prelude.{◌≡◌, Bool, ◌||◌, ltb, length}
use Rattle.std.proofs.Math.Path.{refl}
use Rattle.std.proofs.Common.{sym, ap, ◌∙◌, add-one}
use mathlib.Core.List.{List, [], ◌∷◌, ◌++◌}
use Prim.Native.Nat.{ℕ, zero, suc, ◌+◌, ◌<◌, ◌≤◌}
use native.Mathlib.Omega.{arith}
use borrow.Author.Tests.{ltb-true, ltb-false}
use Rattle.std.proofs.Math.ListN.{get_or, length-append, get_or-append}
use Rattle.std.proofs.Math.Seq.{get_or-append_seam}
use Rattle.rules.specs.Base.{any}
use Rattle.rules.specs.TextLaws.{by_test}
use Rattle.deck.specs.Records.{tab, sum}

module _ {A : Type 0} (f : ℕ → A) where
  pub length_tab : (n : ℕ) → length (tab f n) ≡ n
  unfolding tab
  length_tab zero = refl
  length_tab (suc n) = let h = length_tab n in length-append (tab f n) (f n ∷ []) ∙ rw h (omega arith)

  pub tab_more : (n : ℕ) → tab f (n + 1) ≡ tab f n ++ (f n ∷ [])
  unfolding tab
  tab_more n = rw (add-one n) refl

  pub get_d_tab : (d : A) (n i : ℕ) → i < n → get_or (tab f n) i d ≡ f i
  unfolding tab
  get_d_tab d zero i h = absurd (omega arith)
  get_d_tab d (suc n) i h =
      let l = length_tab n in
      by_test (ltb i n)
      (λ e. let k : i < n = ltb-true i n e in get_or-append (tab f n) (f n ∷ []) d i (omega arith) ∙ get_d_tab d n i k)
      (λ e. let k = ltb-false i n e in let q : i ≡ n = omega arith in rw q (ap (λ (j : ℕ). get_or (tab f n ++ (f n ∷ [])) j d) (sym l) ∙ get_or-append_seam (tab f n) (f n) [] d))

  pub any_more : (p : A → Bool) (n : ℕ) → any p (tab f (suc n)) ≡ (any p (tab f n) || p (f n))
  unfolding tab
  any_more p n = snoc p (tab f n) (f n)
    where
      snoc : (p : A → Bool) (l : List A) (x : A) → any p (l ++ (x ∷ [])) ≡ (any p l || p x)
      snoc p [] x = by_test (p x) (λ e. rw e refl) (λ e. rw e refl)
      snoc p (y ∷ l) x = by_test (p y) (λ e. rw e refl) (λ e. rw e (snoc p l x))

pub tab_same : {A : Type 0} (f g : ℕ → A) (n : ℕ) → ((i : ℕ) → i < n → f i ≡ g i) → tab f n ≡ tab g n
unfolding tab
tab_same f g zero h = refl
tab_same f g (suc n) h = rw (h n (omega arith), tab_same f g n (λ i l. h i (omega arith))) refl

-- sums
module _ (f : ℕ → ℕ) where
  pub sum_more : (n : ℕ) → sum f (n + 1) ≡ sum f n + f n
  unfolding sum
  sum_more n = rw (add-one n) refl

  pub sum_rise : (i n : ℕ) → i ≤ n → sum f i ≤ sum f n
  unfolding sum
  sum_rise i zero h = let e : i ≡ 0 = omega arith in rw e (omega arith)
  sum_rise i (suc n) h = by_test (ltb i (suc n))
      (λ e. let l = ltb-true i (suc n) e in omega (arith, sum_rise i n (omega arith)))
      (λ e. let l = ltb-false i (suc n) e in let q : i ≡ suc n = omega arith in rw q (omega arith))

pub sum_same : (f g : ℕ → ℕ) (n : ℕ) → ((i : ℕ) → i < n → f i ≡ g i) → sum f n ≡ sum g n
unfolding sum
sum_same f g zero h = refl
sum_same f g (suc n) h = rw (h n (omega arith), sum_same f g n (λ i l. h i (omega arith))) refl
