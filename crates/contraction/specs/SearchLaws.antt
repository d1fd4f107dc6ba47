-- What `any` answers over the places of a list, from the first on or from the last back. Assumes nothing.
use Rattle.std.specs.Prelude.{Bool, true, false, ◌≡◌, refl, List, [], ◌∷◌, Option, ℕ, zero, suc, ◌+◌, ◌-◌, ◌<◌, ◌≤◌, length, get_or}
use Rattle.std.proofs.Common.{sym, ap, subst, ◌∙◌, arith}
use Rattle.std.specs.Bool.{MatchBool}
use Rattle.std.specs.Option.{MatchOption}
use Rattle.std.specs.List.{range_with_len, AllWithin, HoldsAt}
use Rattle.std.specs.declared.iter.Rev.{Rev}
use Rattle.std.specs.declared.ops.Range.{Range}
use Rattle.std.proofs.lemmas.Iterator.{YieldsList}
use Rattle.std.proofs.lemmas.Iterator.Consumers.{YieldsList-from_shown}
use Rattle.std.proofs.lemmas.List.FromFn.{length-range_with_len, get_or-range_with_len}
use Rattle.std.proofs.lemmas.List.Recursion.{or_at, or_from_places}
use Rattle.rules.specs.Base.{any}

-- ---- n numbers, the last of those from a on first
abbrev pub range_down : ℕ → ℕ → List ℕ
range_down a zero = []
range_down a (suc n) = (a + n) ∷ range_down a n

length_down : (a n : ℕ) → length (range_down a n) ≡ n
length_down a zero = refl
length_down a (suc n) = ap suc (length_down a n)

nth_down : (a n i : ℕ) → i < n → get_or (range_down a n) i 0 ≡ a + (n - 1 - i)
nth_down a zero i h = absurd (omega arith)
nth_down a (suc n) zero h = omega arith
nth_down a (suc n) (suc i) h = omega (arith, nth_down a n i (omega arith))

-- one of them lies between
pub down_in : (a n x k : ℕ) → k < length (range_down a n) → x ≡ get_or (range_down a n) k x → (a ≤ x) × (x < a + n)
down_in a zero x k h e = absurd (omega arith)
down_in a (suc n) x zero h e = (omega arith, omega arith)
down_in a (suc n) x (suc k) h e = let d = down_in a n x k (omega arith) e in (d.0, omega (arith, d.1))

abbrev steps_down : Rev (Range ℕ) → Option ℕ → Rev (Range ℕ) → Type 0
steps_down s r t = (t.iter.start ≡ s.iter.start) × MatchOption r ((s.iter.end - s.iter.start ≡ 0) × (t.iter.end ≡ s.iter.end)) (λ x. (0 < s.iter.end - s.iter.start) × (x ≡ t.iter.end) × (s.iter.end ≡ t.iter.end + 1))

pub yields_down : {s : Rev (Range ℕ)} (a b n : ℕ) → s.iter ≡ record { start = a; end = b } → b - a ≡ n → YieldsList steps_down (λ x. x) s (range_down a n)
yields_down {s} a b n e f =
    subst (YieldsList steps_down (λ x. x) s) (ap (λ (k : Range ℕ). range_down k.start (k.end - k.start)) e ∙ ap (range_down a) f)
    (YieldsList-from_shown steps_down (λ x. x) (λ u. range_down u.iter.start (u.iter.end - u.iter.start))
    (λ u t p. length_down u.iter.start (u.iter.end - u.iter.start) ∙ p.1.0)
    (λ u x t p.
    let m : u.iter.end - u.iter.start ≡ suc (t.iter.end - t.iter.start) = omega (arith, p.0, p.1) in
    let y : u.iter.start + (t.iter.end - t.iter.start) ≡ x = omega (arith, p.0, p.1) in
    ap (range_down u.iter.start) m ∙ ap (λ (k : ℕ). k ∷ range_down u.iter.start (t.iter.end - t.iter.start)) y ∙ ap (λ (k : ℕ). x ∷ range_down k (t.iter.end - t.iter.start)) (sym p.0)) s)

-- ---- element k of l stands at place `at` + k
module _ {A : Type 0} (p : A → Bool) (l : List A) (d : A) (at : ℕ) where
  abbrev pub Tested : Bool → ℕ → Type 0
  Tested r k = at ≤ k → k < at + length l → p (get_or l (k - at) d) ≡ r

  abbrev pub Answered : Bool → List ℕ → Type 0
  Answered r xs = MatchBool r ((k : ℕ) × (k < length xs) × HoldsAt (Tested true) xs k) (AllWithin (Tested false) xs 0 (length xs))

  answered : (xs : List ℕ) → ((i : ℕ) → i < length xs → (at ≤ get_or xs i 0) × (get_or xs i 0 < at + length l)) → ((i : ℕ) → i < length l → (j : ℕ) × (j < length xs) × (get_or xs j 0 ≡ at + i)) → (r : Bool) → Answered r xs → r ≡ any p l
  answered xs I O true f = let h = I f.0 f.1 in sym (or_at (any p) p refl (λ x m. refl) l (get_or xs f.0 0 - at) d (omega (arith, h.0, h.1)) (f.2 0 h.0 h.1))
  answered xs I O false f = sym (or_from_places (any p) p refl (λ x m. refl) l d (λ i h.
      let o = O i h in
      let q : get_or xs o.0 0 - at ≡ i = omega (arith, o.2) in
      rw q at (f o.0 0 (omega arith) o.1 (omega (arith, o.2)) (omega (arith, o.2, h)))))

  pub any_up : (r : Bool) → Answered r (range_with_len at (length l)) → r ≡ any p l
  any_up = answered (range_with_len at (length l))
      (λ i h. let q : i < length l = rw (length-range_with_len at (length l)) at h in let k = get_or-range_with_len at (length l) i 0 q in (omega (arith, k), omega (arith, k)))
      (λ i h. (i, rw (length-range_with_len at (length l)) h, get_or-range_with_len at (length l) i 0 h))

  pub any_down : (r : Bool) → Answered r (range_down at (length l)) → r ≡ any p l
  any_down = answered (range_down at (length l))
      (λ i h. let q : i < length l = rw (length_down at (length l)) at h in let k = nth_down at (length l) i q in (omega (arith, k), omega (arith, k)))
      (λ i h. let q : length l - 1 - i < length l = omega arith in (length l - 1 - i, rw (length_down at (length l)) q, omega (arith, nth_down at (length l) (length l - 1 - i) q)))
