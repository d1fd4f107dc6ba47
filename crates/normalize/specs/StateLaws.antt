-- What an answer that equals a rule's gives a caller: the state after it, its counters, and the pool that has grown.
-- Assumes nothing.
use Rattle.std.specs.Prelude.{◌≡◌, refl, Bool, true, false, List, ℕ, ◌+◌, ◌<◌, ◌≤◌, length}
use Rattle.std.proofs.Common.{sym, ap, subst, ◌∙◌, arith, zero-add}
use Rattle.ir.specs.declared.counters.Counters.{Counters}
use Rattle.rules.specs.Base.{Res, ok, refused, M, then, each}
use Rattle.rules.specs.Pool.{Pool}
use Rattle.rules.specs.Normalize.{St, N, back_in, in_pool, nnf_by}
use Rattle.rules.specs.Post.{Post, gives, post_map}
use Rattle.rules.specs.Invariants.{Each, Bounds, Wf, Grown}
use Rattle.rules.specs.PoolLaws.{grown_length, grown_at}
use Rattle.rules.specs.DepthLaws.{deepest_of, depth}
use Rattle.rules.proofs.NormalizeLaws.{Done as IdDone, AllDone, deeper, each_done, nnf_done, negation_done}
use Rattle.pool.specs.Layout.{concept_at, pool_of}
use Rattle.pool.specs.Held.{Held}
use Rattle.pool.specs.Answers.{drawn, shown}
use Rattle.pool.specs.Tabs.{tab_same}
use Rattle.pool.specs.HeldLaws.{pool_length, pool_at}
use Rattle.rebuilding.specs.States.{state_of, counted, told}

-- the counters of a held pool are the ones of its state
pub counted_same : (w : List ℕ) (k : Counters) → Held w k.concepts k.members → counted k (state_of k w) ≡ k
counted_same w k H = rw (pool_length w k.concepts, ← H.count) refl

-- what else the counters hold stays
told_counted : {A : Type 0} (k : Counters) (s : St) (x : Res St A) → told (counted k s) x ≡ told k x
told_counted k s (ok a t) = refl
told_counted k s (refused e) = refl

-- ---- an answer that is there
-- the rule's state and counters are the code's
pub record Stated {A : Type 0} (k k' : Counters) (a : A) (w : List ℕ) (r : Res St A) : Type 0 where
  pub answer : r ≡ ok a (state_of k' w)
  pub counts : k' ≡ counted k (state_of k' w)

pub stated : {A : Type 0} (k k' : Counters) (a : A) (w : List ℕ) (r : Res St A) → ok a (drawn k' (pool_of w k'.concepts)) ≡ told k r → Stated k k' a w r
stated k k' a w (ok x s) e =
    let p : a ≡ x = cc in
    let q : k' ≡ counted k s = cc in
    let o : pool_of w k'.concepts ≡ s.pool = cc in
    let v : k'.visits ≡ s.visits = ap (λ (j : Counters). j.visits) q in
    let l : k'.limit ≡ s.limit = ap (λ (j : Counters). j.limit) q in
    record { answer = rw (o, v, l, p) refl; counts = q ∙ sym (rw (o, v, l) refl) }
stated k k' a w (refused n) e = absurd (let z : ◌≡◌ {A = ℕ} 0 1 = cc in omega arith)

-- what holds of the rule's answer
pub stated_post : {A : Type 0} (Q : A → St → Type 0) (k k' : Counters) (a : A) (w : List ℕ) (r : Res St A) → Stated k k' a w r → Post Q r → Q a (state_of k' w)
stated_post Q k k' a w r S h = go (subst (Post Q) S.answer h)
  where
    go : Post Q (ok a (state_of k' w)) → Q a (state_of k' w)
    go (gives x) = x

-- what is told of the rest from the state before is told from the state after
pub told_on : {A C : Type 0} (k k' : Counters) (a : A) (w : List ℕ) (r : Res St A) (f : A → N C) → Stated k k' a w r → told k (then r f) ≡ told k' (f a (state_of k' w))
told_on k k' a w r f S =
    ap (λ x. told k (then x f)) S.answer
    ∙ sym (ap (λ (j : Counters). told j (f a (state_of k' w))) S.counts ∙ told_counted k (state_of k' w) (f a (state_of k' w)))

-- a constructor of the pool after it
pub shown_told : (k : Counters) (w : List ℕ) (m : M Pool ℕ) → shown k (m (pool_of w k.concepts)) ≡ told k (in_pool m (state_of k w))
shown_told k w m = go (m (pool_of w k.concepts))
  where
    go : (r : Res Pool ℕ) → shown k r ≡ told k (back_in (state_of k w) r)
    go (ok i p) = refl
    go (refused e) = refl

-- ---- a refusal
pub told_refused : {A : Type 0} (k : Counters) (n : ℕ) (r : Res St A) → refused n ≡ told k r → r ≡ refused n
told_refused k n (ok a s) e = absurd (let z : ◌≡◌ {A = ℕ} 0 1 = cc in omega arith)
told_refused k n (refused m) e = let z : n ≡ m = cc in ap refused (sym z)

-- ---- pools that have grown, in scratch
module _ (w w' : List ℕ) (n n' : ℕ) (G : Grown (pool_of w n) (pool_of w' n')) where
  pub grown_count : n ≤ n'
  grown_count = omega (arith, grown_length G, pool_length w n, pool_length w' n')

  pub same_concept_lem : (c : ℕ) → c < n → concept_at w' c ≡ concept_at w c
  same_concept_lem c h =
      let l = grown_count in
      sym (pool_at w' n' c (omega arith)) ∙ grown_at G c (rw (pool_length w n) h) ∙ pool_at w n c h

  pub same_pool : (c : ℕ) → c ≤ n → pool_of w' c ≡ pool_of w c
  same_pool c h = tab_same (concept_at w') (concept_at w) 0 0 c (λ i l. let e : 0 + i ≡ i = zero-add i in rw e (same_concept_lem i (omega arith)))

-- ---- the two rules, and a list by them
module _ (B : Bounds) (b : Bool) where
  pub by_done : (f c : ℕ) (s : St) → Wf B s.pool → c < length s.pool → c < f → Post (IdDone B (1 + depth s.pool c) s) (nnf_by b f c s)
  by_done f c s w h k = go b
    where
      go : (b : Bool) → Post (IdDone B (1 + depth s.pool c) s) (nnf_by b f c s)
      go false = post_map (nnf_done B f c s w h k) (λ i t D. deeper D (omega arith))
      go true = post_map (negation_done B f c s w h k) (λ i t D. deeper D (omega arith))

  pub each_by_done : (F : ℕ → ℕ) (c : ℕ) → ((d : ℕ) → d < c → d < F d) → (l : List ℕ) → Each (λ d. d < c) l → (s : St) → Wf B s.pool → Each (λ d. d < length s.pool) l
      → Post (AllDone B (1 + deepest_of (depth s.pool) l) s) (each (λ d. nnf_by b (F d) d) l s)
  each_by_done F c deep l h s w i = each_done B 1 (λ d. nnf_by b (F d) d) c (λ d j t v k. by_done (F d) d t v k (deep d j)) l h s w i
