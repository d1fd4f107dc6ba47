-- What a `fold` over a range keeps, said of the number that is next, or was last. Assumes nothing.
use Rattle.std.specs.Prelude.{Option, Some, None, ◌≡◌, refl, List, [], ◌∷◌, ℕ, ◌+◌, ◌-◌, ◌<◌, ◌≤◌}
use Rattle.std.proofs.Common.{subst, sym, arith}
use Rattle.std.specs.Fn.{Called}
use Rattle.std.specs.Iterator.{Yields, FoldTurn, FoldsItems}
use Rattle.std.specs.Iterator.Adapters.{rev_source, rev_steps}
use Rattle.std.specs.List.{FoldsTo}
use Rattle.std.specs.Option.{MatchOption}
use Rattle.std.specs.declared.iter.Rev.{Rev}
use Rattle.std.specs.declared.ops.Range.{Range}
use Rattle.std.proofs.iter.Yields.{nat_range_steps}
use denote.Param.Members.{Mut}

-- as `nat_range_steps`, from the last number on
abbrev pub down : Range ℕ → Option ℕ → Range ℕ → Type 0
down s r t = (t.start ≡ s.start) × MatchOption r ((s.end - s.start ≡ 0) × (t.end ≡ s.end)) (λ x. (0 < s.end - s.start) × (x ≡ t.end) × (s.end ≡ t.end + 1))

module _ {S A F C : Type 0} (steps : S → Option A → S → Type 0) (g : Mut F (C × (A × Unit {0})) C) (f : F) (J : S → C → Type 0)
    (step : (s : S) (x : A) (t : S) (a b : C) (f' : F) → steps s (Some x) t → J s a → Called g f (a, (x, tt)) b f' → J t b × (f' ≡ f)) where
  turns : (xs : List A) (s t : S) (p q : F × C) → p.0 ≡ f → J s p.1 → Yields steps s xs t → FoldsTo {P = F × C} (FoldTurn g) p xs q → J t q.1
  turns [] s t p q e j y k = subst (λ (v : S). J v q.1) y (subst (λ (v : F × C). J s v.1) k j)
  turns (x ∷ xs) s t p q e j y k =
      let n = step s x y.0 p.1 k.0.1 k.0.0 y.1 j (subst (λ (z : F). Called g z (p.1, (x, tt)) k.0.1 k.0.0) e k.1) in
      turns xs y.0 t k.0 q n.1 n.0 y.2 k.2

  -- the moment after the last turn, when no item is left
  kept : (s : S) (a r : C) → FoldsItems steps g s f a r → J s a → (t : S) × (u : S) × steps t None u × J t r
  kept s a r ran j = let D = ran.2 in (D.1.0, D.0, D.1.2, turns ran.0 s D.1.0 (f, a) (ran.1, r) refl j D.1.1 ran.3)

module _ {F C : Type 0} (g : Mut F (C × (ℕ × Unit {0})) C) (f : F) (J : ℕ → C → Type 0) where
  -- from m on, and before n, which may be below m
  module _ (m n : ℕ) (step : (x : ℕ) (a b : C) (f' : F) → m ≤ x → x < n → J x a → Called g f (a, (x, tt)) b f' → J (x + 1) b × (f' ≡ f)) where
    pub fold_from : (s : Range ℕ) (a r : C) → s ≡ record { start = m; end = n } → J m a → FoldsItems nat_range_steps g s f a r → (t : ℕ) × (n ≤ t) × (m ≤ n → t ≡ n) × J t r
    fold_from s a r e j ran =
        let K = kept nat_range_steps g f (λ (t : Range ℕ) (v : C). (t.end ≡ n) × (m ≤ t.start) × (m ≤ n → t.start ≤ n) × J t.start v)
        (λ k x t v w f' p q h.
        let z : x < n = omega (arith, p.1, q.0) in
        let N = step x v w f' (omega (arith, p.1, q.1)) z (subst (λ (i : ℕ). J i v) (sym p.1.1) q.3) h in
        let y : x + 1 ≡ t.start = omega (arith, p.1) in
        ((omega (arith, p.0, q.0), omega (arith, p.1, q.1), λ _. omega (arith, p.1, q.0), subst (λ (i : ℕ). J i w) y N.0), N.1))
        s a r ran (subst (λ (t : Range ℕ). (t.end ≡ n) × (m ≤ t.start) × (m ≤ n → t.start ≤ n) × J t.start a) (sym e) (refl, omega arith, (λ h. h), j)) in
        (K.0.start, omega (arith, K.2, K.3.0), (λ h. let b = K.3.2 h in omega (arith, b, K.2, K.3.0)), K.3.3)

  -- from the last before n to 0
  module _ (n : ℕ) where
    pub fold_down : ((x : ℕ) (a b : C) (f' : F) → x < n → J (x + 1) a → Called g f (a, (x, tt)) b f' → J x b × (f' ≡ f))
        → (s : Rev (Range ℕ)) (a r : C) → rev_source s ≡ record { start = 0; end = n } → J n a → FoldsItems (rev_steps down) g s f a r → J 0 r
    fold_down step s a r e j ran =
        let K = kept (rev_steps down) g f (λ (t : Rev (Range ℕ)) (v : C). ((rev_source t).start ≡ 0) × ((rev_source t).end ≤ n) × J (rev_source t).end v)
        (λ k x t v w f' p q h.
        let z : x < n = omega (arith, p.1, q.1) in
        let y : (rev_source k).end ≡ x + 1 = omega (arith, p.1) in
        let N = step x v w f' z (subst (λ (i : ℕ). J i v) y q.2) h in
        ((omega (arith, p.0, q.0), omega (arith, p.1, q.1), subst (λ (i : ℕ). J i w) p.1.1 N.0), N.1))
        s a r ran (subst (λ (t : Range ℕ). (t.start ≡ 0) × (t.end ≤ n) × J t.end a) (sym e) (refl, omega arith, j)) in
        let z : (rev_source K.0).end ≡ 0 = omega (arith, K.2, K.3.0) in
        subst (λ (i : ℕ). J i r) z K.3.2
