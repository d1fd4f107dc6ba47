-- Option 4: after the queue is empty every filler that waited is inside its name, both halves. Each inclusion is read at bounds that
-- reach up to the classes taken before it, since the pool has their names. Assumes nothing.
use Rattle.std.specs.Prelude.{◌≡◌, true, length}
use Rattle.std.proofs.Math.Path.{refl}
use Rattle.std.proofs.Common.{sym, ap, ◌∙◌, subst, le_refl, le_trans, arith}
use Rattle.std.proofs.lemmas.Bool.{false≢true}
use mathlib.Core.List.{List, [], ◌∷◌, ◌++◌, append-nil, append_assoc}
use Prim.Native.Nat.{ℕ, zero, suc, ◌+◌, ◌≤◌, ◌<◌}
use Rattle.ir.specs.declared.role.Role.{Role}
use Rattle.rules.specs.Concept.{Atomic}
use Rattle.rules.specs.Pool.{Pool, intern_raw}
use Rattle.rules.specs.State.{Clause, Limit, Env, canon, leave_limits}
use Rattle.rules.specs.Axioms.{Clausifier, C, other_half, settle_next, settle_by}
use Rattle.rules.specs.Post.{Post, give, refuses, post_then, post_map, post_every}
use Rattle.rules.specs.Invariants.{Each, Bounds, up_to, Wf, Grown}
use Rattle.rules.specs.LimitLaws.{wf_up}
use Rattle.rules.specs.PoolLaws.{grown_refl, grown_trans, grown_length}
use Rattle.rules.specs.EachLaws.{each_both, each_append, each_left, each_right}
use Rattle.rules.specs.EqualNames.{leaving}
use Rattle.rules.specs.Semantics.{Interpretation, with_classes, related, means}
use Rattle.meaning.specs.Truth.{implies_elim, implies_intro}
use Rattle.meaning.specs.Choices.{Follows}
use Rattle.meaning.specs.Valuations.{Valuation, Agree, agree_refl, agree_trans, ClauseUnder, each_of_lem, clause_under_more, follow_agree}
use Rattle.meaning.specs.Adds.{insides_agree, Setting, Alone}
use Rattle.meaning.proofs.Finite.{MadeAs, means_grown, atomic_means}
use Rattle.meaning.proofs.Added.{insides_grown, insides_shrunk, added_map}
use Rattle.meaning.proofs.Inclusions.{Included}
use Rattle.meaning.proofs.Absorb.{pool_then, Works, inclusion_means}

module _ (I : Interpretation) (B : Bounds) (env : Env) (low : ℕ) (inds : (i : ℕ) → i < B.individuals → env.nominal_base + i < low)
    (keeps : (r : Role) (x y : ℕ) → x < I.size → y < I.size → related I (canon env r) x y ≡ related I r x y) where
  -- bounds that reach up to the classes taken
  pub setting : (n : ℕ) → low ≤ n → Setting I (up_to B n) env n
  setting n h = record { classes = le_refl n; individuals = λ i l. le_trans (inds i l) h; keeps = keeps }

  abbrev pub alone_at : (n : ℕ) {k : Valuation} → Alone I B env k → Alone I (up_to B n) env k
  alone_at n m = record { alone = m.alone }

  pub alone_agree : {n : ℕ} {k l : Valuation} → low ≤ n → Agree n k l → Alone I B env k → Alone I B env l
  alone_agree h a m = record { alone = λ i x b u. let q = inds i b in ap (λ f. f x) (sym (a.same (env.nominal_base + i) (omega arith))) ∙ m.alone i x b u }

  -- ---- the filler is inside its name
  abbrev pub In : Pool → Valuation → Limit → Type 0
  In p k w = (x : ℕ) → x < I.size → means (with_classes I k) p w.filler x ≡ true → k w.name x ≡ true

  pub in_agree : (n : ℕ) → low ≤ n → (p : Pool) → Wf (up_to B n) p → {k l : Valuation} → Agree n k l → (ws : List Limit) → Each (λ w. w.name < n) ws → Each (In p k) ws → Each (In p l) ws
  in_agree n h p w a ws u i = insides_agree I (up_to B n) env n (setting n h) p w (le_refl n) a ws u i

  -- what waits, in the pool and below the next class
  abbrev pub Held : Clausifier → Limit → Type 0
  Held z w = (w.filler < length z.pool) × (w.name < z.out.next_fresh)

  -- ---- one inclusion
  module _ (z : Clausifier) (low≤ : low ≤ z.out.next_fresh) (wf : Wf (up_to B z.out.next_fresh) z.pool) where
    abbrev pub Puts : Limit → Clausifier → Type 0
    Puts w t = Works I (up_to B z.out.next_fresh) env z.out.next_fresh (setting z.out.next_fresh low≤) z (λ k. In z.pool k w) (λ k. In z.pool k w) t

    module _ (w : Limit) (h : Held z w) (q : Pool) (a : ℕ) (M : (J : Interpretation) → MadeAs J (up_to B z.out.next_fresh) z.pool (J.class w.name) a q) where
      filler_is : (k : Valuation) → means (with_classes I k) q w.filler ≡ means (with_classes I k) z.pool w.filler
      filler_is k = means_grown (with_classes I k) (M I).made.grows w.filler h.0

      -- the inclusion is what waited
      name_in_lem : (k : Valuation) → In z.pool k w → Included I q w.filler a k
      name_in_lem k i x s = implies_intro (means (with_classes I k) q w.filler x) (means (with_classes I k) q a x) (λ e.
          ap (λ f. f x) (M (with_classes I k)).meaning ∙ i x s (ap (λ f. f x) (sym (filler_is k)) ∙ e))

      in_name : (k : Valuation) → Included I q w.filler a k → In z.pool k w
      in_name k i x s e = ap (λ f. f x) (sym (M (with_classes I k)).meaning)
          ∙ implies_elim (means (with_classes I k) q w.filler x) (means (with_classes I k) q a x) (i x s) (ap (λ f. f x) (filler_is k) ∙ e)

    pub other_half_means : (w : Limit) → Held z w → Post (λ _ t. Puts w t) (other_half env w z)
    unfolding other_half
    other_half_means w h =
        pool_then z (intern_raw (Atomic w.name)) _ (post_every (λ (J : Interpretation). atomic_means J (up_to B z.out.next_fresh) z.pool wf w.name h.1)) (λ a q M.
        post_map (inclusion_means I (up_to B z.out.next_fresh) env z.out.next_fresh (setting z.out.next_fresh low≤) w.filler a (record { pool = q; out = z.out }) (M I).made.wf
        (le_trans h.0 (grown_length (M I).made.grows)) (M I).made.held (le_refl z.out.next_fresh)) (λ _ t D. record {
          moved = record { grows = grown_trans (M I).made.grows D.moved.grows; wf = D.moved.wf };
          added = added_map I (up_to B z.out.next_fresh) env z.out.next_fresh (setting z.out.next_fresh low≤) t.pool D.moved.wf
              (λ k _ i. name_in_lem w h q a M k i) (λ k _ i. in_name w h q a M k i) D.added;
        }))

    -- what waits after it
    pub holds_after : (w : Limit) (t : Clausifier) → Puts w t → (l : List Limit) → z.out.limits ≡ l → Each (Held z) l → Each (Held t) t.out.limits
    holds_after w t D l e u =
        let A = D.added in
        let longer = grown_length D.moved.grows in
        subst (Each (Held t)) (sym (A.waits ∙ ap (λ x. x ++ A.waiting) e)) (each_append (Held t) l A.waiting
        (each_of_lem (λ _ h. (omega (arith, longer, h.0), omega (arith, A.fresh, h.1))) l u)
        (each_both (λ w. w.filler < length t.pool) (λ w. w.name < t.out.next_fresh) (Held t) (λ _ h k. (h, k)) A.waiting A.held A.named))

  -- ---- the queue
  module _ (on : env.equal_names ≡ true) where
    pub record Settled (z : Clausifier) (ws : List Limit) (t : Clausifier) : Type 0 where
      pub grows : Grown z.pool t.pool
      pub wf : Wf (up_to B t.out.next_fresh) t.pool
      pub empty : t.out.limits ≡ []
      pub new : List Clause
      pub grown : t.out.clauses ≡ z.out.clauses ++ new
      pub fresh : z.out.next_fresh ≤ t.out.next_fresh
      pub defers : length z.out.deferrals ≤ length t.out.deferrals
      pub under : Each (ClauseUnder t.out.next_fresh) new
      pub gets : (k : Valuation) → Alone I B env k → Each (In z.pool k) ws → (l : Valuation) × Agree z.out.next_fresh k l × Each (Follows (with_classes I l)) new
      pub says : (k : Valuation) → Alone I B env k → Each (Follows (with_classes I k)) new → env.dkey_classes ≡ [] → length t.out.deferrals ≡ length z.out.deferrals → Each (In z.pool k) ws

    -- one inclusion, then what is left of the queue with what it made
    module _ (z : Clausifier) (w : Limit) (l : List Limit) (low≤ : low ≤ z.out.next_fresh) (wfz : Wf (up_to B z.out.next_fresh) z.pool) (hl : Each (Held z) l) where
      joined : (t₁ : Clausifier) (D : Puts (leaving l z) low≤ wfz w t₁) (t : Clausifier) → Settled t₁ (l ++ D.added.waiting) t → Settled z (w ∷ l) t
      joined t₁ D t X =
          let A = D.added in
          let g₁ : Grown z.pool t₁.pool = D.moved.grows in
          let fillers : Each (λ w. w.filler < length z.pool) l = each_of_lem (λ _ h. h.0) l hl in
          let names : Each (λ w. w.name < z.out.next_fresh) l = each_of_lem (λ _ h. h.1) l hl in
          record {
            grows = grown_trans g₁ X.grows;
            wf = X.wf;
            empty = X.empty;
            new = A.new ++ X.new;
            grown = X.grown ∙ ap (λ c. c ++ X.new) A.grown ∙ append_assoc z.out.clauses A.new X.new;
            fresh = omega (arith, A.fresh, X.fresh);
            defers = omega (arith, A.defers, X.defers);
            under = each_append (ClauseUnder t.out.next_fresh) A.new X.new (each_of_lem (clause_under_more X.fresh) A.new A.under) X.under;
            gets = λ k m i.
                let u = A.gets k (alone_at z.out.next_fresh m) i.0 in
                let m₁ = alone_agree low≤ u.1 m in
                let rest = insides_grown I g₁ u.0 l fillers (in_agree z.out.next_fresh low≤ z.pool wfz u.1 l names i.1) in
                let v = X.gets u.0 m₁ (each_append (In t₁.pool u.0) l A.waiting rest u.3) in (
                  v.0,
                  agree_trans A.fresh u.1 v.1,
                  each_append (Follows (with_classes I v.0)) A.new X.new (follow_agree I v.1 A.new A.under u.2) v.2,
                );
            says = λ k m f keys d.
                let both = X.says k m (each_right (Follows (with_classes I k)) A.new X.new f) keys (omega (arith, A.defers, X.defers)) in (
                  A.says k (alone_at z.out.next_fresh m) (each_left (Follows (with_classes I k)) A.new X.new f) (each_right (In t₁.pool k) l A.waiting both) (λ off. absurd (false≢true (sym off ∙ on))) keys (omega (arith, A.defers, X.defers)),
                  insides_shrunk I g₁ k l fillers (each_left (In t₁.pool k) l A.waiting both),
                );
          }

      next : Held z w → (rest : C (Unit {0}))
          → ((y : Clausifier) → Wf (up_to B y.out.next_fresh) y.pool → low ≤ y.out.next_fresh → Each (Held y) y.out.limits → Post (λ _ t. Settled y y.out.limits t) (rest y))
          → Post (λ _ t. Settled z (w ∷ l) t) (settle_next env rest (w ∷ l) z)
      unfolding leave_limits
      next hw rest ih =
          post_then (other_half_means (leaving l z) low≤ wfz w hw) (λ _ t₁ D.
          post_map (ih t₁ (wf_up B D.added.fresh t₁.pool D.moved.wf) (omega (arith, D.added.fresh)) (holds_after (leaving l z) low≤ wfz w t₁ D l refl hl))
          (λ _ t X. joined t₁ D t (subst (λ ws. Settled t₁ ws t) D.added.waits X)))

    nothing : (z : Clausifier) → Wf (up_to B z.out.next_fresh) z.pool → z.out.limits ≡ [] → Settled z [] z
    nothing z w e = record {
      grows = grown_refl z.pool;
      wf = w;
      empty = e;
      new = [];
      grown = sym (append-nil z.out.clauses);
      fresh = le_refl z.out.next_fresh;
      defers = le_refl (length z.out.deferrals);
      under = tt;
      gets = λ k _ _. (k, agree_refl z.out.next_fresh k, tt);
      says = λ _ _ _ _ _. tt;
    }

    -- until none is left
    pub settle_means : (f : ℕ) (z : Clausifier) → Wf (up_to B z.out.next_fresh) z.pool → low ≤ z.out.next_fresh → Each (Held z) z.out.limits
        → Post (λ _ t. Settled z z.out.limits t) (settle_by env f z)
    unfolding settle_by
    settle_means zero z w b h = refuses
    settle_means (suc f) z w b h = go z.out.limits refl h (settle_means f)
      where
        go : (ws : List Limit) → z.out.limits ≡ ws → Each (Held z) ws
            → ((y : Clausifier) → Wf (up_to B y.out.next_fresh) y.pool → low ≤ y.out.next_fresh → Each (Held y) y.out.limits → Post (λ _ t. Settled y y.out.limits t) (settle_by env f y))
            → Post (λ _ t. Settled z ws t) (settle_next env (λ y. settle_by env f y) ws z)
        go [] e u ih = give (nothing z w e)
        go (x ∷ l) e u ih = next z x l b w u.1 u.0 (λ y. settle_by env f y) ih
