-- The bound of to_nnf and of push_negation_in does not matter: each above the id gives one and the same answer. So one step is read
-- over the parts' own normal forms. Assumes nothing.
use Rattle.std.specs.Prelude.{◌≡◌, Bool, true, false, length, ltb}
use Rattle.std.proofs.Math.Path.{refl, sym, ap}
use Rattle.std.proofs.Common.{◌∙◌, not-suc-le-zero, arith}
use mathlib.Core.List.{List, [], ◌∷◌}
use Prim.Native.Nat.{ℕ, zero, suc, ◌<◌, ◌≤◌}
use Rattle.rules.specs.Base.{then, return, each, ◌>>=◌}
use Rattle.rules.specs.Concept.{Concept}
use Rattle.rules.specs.Concept.{Top, Bot, Atomic, Nominal, SelfRestriction, Not, And, Or, Some, All, Min, Max}
use Rattle.rules.specs.Pool.{at}
use Rattle.rules.specs.Normalize.{St, N, begun, visit, nnf_step, to_nnf, push_negation_in, nnf_by, nnf, nnf_complement}
use Rattle.rules.specs.Invariants.{Each, Bounds, Bounded, Wf}
use Rattle.rules.specs.Post.{Post, then_same}
use Rattle.rules.specs.PoolLaws.{grown_length}
use Rattle.rules.proofs.NormalizeLaws.{NnfMade, nnf_made, negation_made}

-- ---- a visit leaves the pool
-- so the record can be read before it
visited_by : (b : Bool) (f c : ℕ) (s : St) (e : Concept) → at s.pool c ≡ e → nnf_by b (suc f) c s ≡ then (visit s) (λ _. nnf_step b (to_nnf f) (push_negation_in f) c e)
unfolding to_nnf visit
visited_by b f c s e h = both b
  where
    go : (b t : Bool) → then (begun s t) (λ _ u. nnf_step b (to_nnf f) (push_negation_in f) c (at u.pool c) u) ≡ then (begun s t) (λ _. nnf_step b (to_nnf f) (push_negation_in f) c e)
    go b true = rw h refl
    go b false = refl

    both : (b : Bool) → nnf_by b (suc f) c s ≡ then (visit s) (λ _. nnf_step b (to_nnf f) (push_negation_in f) c e)
    both true = go true (ltb s.visits s.limit)
    both false = go false (ltb s.visits s.limit)

-- and what follows is called with that pool
visit_same : (x y : N ℕ) (s : St) → ((t : St) → t.pool ≡ s.pool → x t ≡ y t) → then (visit s) (λ _. x) ≡ then (visit s) (λ _. y)
unfolding visit
visit_same x y s h = go (ltb s.visits s.limit)
  where
    go : (b : Bool) → then (begun s b) (λ _. x) ≡ then (begun s b) (λ _. y)
    go true = h _ refl
    go false = refl

module _ (B : Bounds) where
  -- two calls that answer alike for ids below c, and make sound ones
  record Alike (c : ℕ) (x y : ℕ → N ℕ) : Type 0 where
    same : (d : ℕ) (s : St) → d < c → Wf B s.pool → c ≤ length s.pool → x d s ≡ y d s
    made : (d : ℕ) (s : St) → d < c → Wf B s.pool → c ≤ length s.pool → Post (NnfMade B s) (x d s)

  each_same : (c : ℕ) (x y : ℕ → N ℕ) → Alike c x y → (l : List ℕ) → Each (λ d. d < c) l → (s : St) → Wf B s.pool → c ≤ length s.pool → each x l s ≡ each y l s
  unfolding each
  each_same c x y A [] u s w h = refl
  each_same c x y A (d ∷ l) u s w h =
      then_same (A.made d s u.0 w h) (λ i t M. ap (λ z. then z (λ k. return (i ∷ k))) (each_same c x y A l u.1 t M.made.wf (omega (arith, h, grown_length M.made.grows))))
      ∙ ap (λ z. then z (λ i. each y l >>= (λ k. return (i ∷ k)))) (A.same d s u.0 w h)

  -- ---- one step
  module _ (c : ℕ) (x y x′ y′ : ℕ → N ℕ) (A : Alike c x x′) (D : Alike c y y′) (s : St) (w : Wf B s.pool) (h : c ≤ length s.pool) where
    one : {x y : ℕ → N ℕ} → Alike c x y → (d : ℕ) → d < c → (k : ℕ → N ℕ) → then (x d s) k ≡ then (y d s) k
    one E d u k = ap (λ z. then z k) (E.same d s u w h)

    several : {x y : ℕ → N ℕ} → Alike c x y → (l : List ℕ) → Each (λ d. d < c) l → (k : List ℕ → N ℕ) → then (each x l s) k ≡ then (each y l s) k
    several {x} {y} E l u k = ap (λ z. then z k) (each_same c x y E l u s w h)

    step_same : (b : Bool) (e : Concept) → Bounded B c e → nnf_step b x y c e s ≡ nnf_step b x′ y′ c e s
    unfolding nnf_step
    step_same false (And l) u = several A l u _
    step_same true (And l) u = several D l u _
    step_same false (Or l) u = several A l u _
    step_same true (Or l) u = several D l u _
    step_same false (Not d) u = D.same d s u w h
    step_same true (Not d) u = A.same d s u w h
    step_same false (Nominal _) u = refl
    step_same true (Nominal _) u = refl
    step_same false (Some r d) u = one A d u.1 _
    step_same true (Some r d) u = one D d u.1 _
    step_same false (All r d) u = one A d u.1 _
    step_same true (All r d) u = one D d u.1 _
    step_same false (SelfRestriction _) u = refl
    step_same true (SelfRestriction _) u = refl
    step_same false (Min n r d) u = one A d u.2 _
    step_same true (Min zero r d) u = refl
    step_same true (Min (suc n) r d) u = one A d u.2 _
    step_same false (Max n r d) u = one A d u.2 _
    step_same true (Max n r d) u = one A d u.2 _
    step_same false Top u = refl
    step_same true Top u = refl
    step_same false Bot u = refl
    step_same true Bot u = refl
    step_same false (Atomic _) u = refl
    step_same true (Atomic _) u = refl

  -- ---- the two
  by_made : (b : Bool) (f d : ℕ) (s : St) → Wf B s.pool → d < length s.pool → d < f → Post (NnfMade B s) (nnf_by b f d s)
  by_made false f d s = nnf_made B f d s
  by_made true f d s = negation_made B f d s

  pub bound_free : (f g : ℕ) (b : Bool) (c : ℕ) (s : St) → c < f → c < g → Wf B s.pool → c < length s.pool → nnf_by b f c s ≡ nnf_by b g c s
  bound_free zero g b c s i j w h = absurd (not-suc-le-zero i)
  bound_free (suc f) zero b c s i j w h = absurd (not-suc-le-zero j)
  bound_free (suc f) (suc g) b c s i j w h =
      visited_by b f c s (at s.pool c) refl
      ∙ visit_same _ _ s (λ t e. step_same c _ _ _ _ (parts false (λ d u. bound_free f g false d u)) (parts true (λ d u. bound_free f g true d u)) t (rw e w) (rw e (omega arith)) b (at s.pool c) (w c h))
      ∙ sym (visited_by b g c s (at s.pool c) refl)
    where
      parts : (b : Bool) → ((d : ℕ) (u : St) → d < f → d < g → Wf B u.pool → d < length u.pool → nnf_by b f d u ≡ nnf_by b g d u) → Alike c (nnf_by b f) (nnf_by b g)
      parts b same = record {
        same = λ d u k w h. same d u (omega arith) (omega arith) w (omega arith);
        made = λ d u k w h. by_made b f d u w (omega arith) (omega arith);
      }

  -- ---- one step over the parts' own normal forms
  abbrev own : Bool → ℕ → N ℕ
  own b c = nnf_by b (suc c) c

  parts_own : (b : Bool) (c : ℕ) → Alike c (nnf_by b c) (own b)
  parts_own b c = record {
    same = λ d s u w h. bound_free c (suc d) b d s u (omega arith) w (omega arith);
    made = λ d s u w h. by_made b c d s w (omega arith) u;
  }

  pub row_by : (b : Bool) (c : ℕ) (s : St) (e : Concept) → Wf B s.pool → c < length s.pool → at s.pool c ≡ e → nnf_by b (suc c) c s ≡ then (visit s) (λ _. nnf_step b nnf nnf_complement c e)
  row_by b c s e w h q =
      visited_by b c c s e q
      ∙ visit_same _ _ s (λ t p. step_same c _ _ _ _ (parts_own false c) (parts_own true c) t (rw p w) (rw p (omega arith)) b e (rw (← q) (w c h)))
