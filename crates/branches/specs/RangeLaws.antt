-- What `any`, `all` and `position` over a range answer, of a test that is known at each place, or from each place on. Assumes nothing.
use Rattle.std.specs.Prelude.{Bool, true, false, not, Option, Some, None, ◌≡◌, refl, ℕ, zero, suc, ◌+◌, ◌<◌, ◌≤◌, length, get_or}
use Rattle.std.proofs.Common.{sym, ap, ◌∙◌, arith}
use Rattle.std.specs.Bool.{MatchBool}
use Rattle.std.specs.Option.{MatchOption}
use Rattle.std.specs.List.{range_with_len, AllWithin, HoldsAt}
use Rattle.std.proofs.lemmas.List.FromFn.{length-range_with_len, get_or-range_with_len}

-- ---- said of the numbers, and not of a list of them
module _ (n : ℕ) (Yes No : ℕ → Type 0) where
  nth : (k : ℕ) → k < n → get_or (range_with_len 0 n) k 0 ≡ k
  nth k h = let z : 0 + k ≡ k = omega arith in get_or-range_with_len 0 n k 0 h ∙ z

  pub any_below : (r : Bool) → MatchBool r ((k : ℕ) × (k < length (range_with_len 0 n)) × HoldsAt Yes (range_with_len 0 n) k) (AllWithin No (range_with_len 0 n) 0 (length (range_with_len 0 n)))
      → MatchBool r ((k : ℕ) × (k < n) × Yes k) ((k : ℕ) → k < n → No k)
  any_below true p = let h : p.0 < n = rw (length-range_with_len 0 n) at p.1 in (p.0, h, rw (nth p.0 h) at (p.2 0))
  any_below false f = λ k h. rw (nth k h) at (f k 0 (omega arith) (rw (length-range_with_len 0 n) h))

  pub position_below : (r : Option ℕ) → MatchOption r (AllWithin No (range_with_len 0 n) 0 (length (range_with_len 0 n))) (λ i. (i < length (range_with_len 0 n)) × HoldsAt Yes (range_with_len 0 n) i × AllWithin No (range_with_len 0 n) 0 i)
      → MatchOption r ((k : ℕ) → k < n → No k) (λ i. (i < n) × Yes i × ((k : ℕ) → k < i → No k))
  position_below None f = λ k h. rw (nth k h) at (f k 0 (omega arith) (rw (length-range_with_len 0 n) h))
  position_below (Some i) p =
      let h : i < n = rw (length-range_with_len 0 n) at p.0 in
      (h, rw (nth i h) at (p.1 0), λ k q. rw (nth k (omega arith)) at (p.2 k 0 (omega arith) q))

-- ---- of f, which says from each place on whether the test holds somewhere
module _ (f : ℕ → Bool) (n : ℕ) where
  abbrev pub Passes : ℕ → Type 0
  Passes k = k < n → f k ≡ true

  abbrev pub Fails : ℕ → Type 0
  Fails k = k < n → f k ≡ f (k + 1)

  fails_to : ((k : ℕ) → k < n → f k ≡ f (k + 1)) → (k : ℕ) → k ≤ n → f 0 ≡ f k
  fails_to g zero h = refl
  fails_to g (suc k) h = let e : k + 1 ≡ suc k = omega arith in fails_to g k (omega arith) ∙ g k (omega arith) ∙ ap f e

  module _ (back : (k : ℕ) → f k ≡ true → f 0 ≡ true) (end : f n ≡ false) where
    answered : (r : Bool) → MatchBool r ((k : ℕ) × (k < n) × Passes k) ((k : ℕ) → k < n → Fails k) → r ≡ f 0
    answered true p = sym (back p.0 (p.2 p.1))
    answered false g = sym (fails_to (λ k h. g k h h) n (omega arith) ∙ end)

    pub any_answered : (r : Bool) → MatchBool r ((k : ℕ) × (k < length (range_with_len 0 n)) × HoldsAt Passes (range_with_len 0 n) k) (AllWithin Fails (range_with_len 0 n) 0 (length (range_with_len 0 n))) → r ≡ f 0
    any_answered r p = answered r (any_below n Passes Fails r p)

    pub all_answered : (r : Bool) → MatchBool r (AllWithin Fails (range_with_len 0 n) 0 (length (range_with_len 0 n))) ((k : ℕ) × (k < length (range_with_len 0 n)) × HoldsAt Passes (range_with_len 0 n) k) → r ≡ not (f 0)
    all_answered true p = ap not (any_answered false p)
    all_answered false p = ap not (any_answered true p)
