-- Inclusions, also with an antecedent that cannot be encoded: the rule says the inclusion, both halves, while the pool grows.
-- Assumes nothing.
use Rattle.std.specs.Prelude.{◌≡◌, Bool, true, false, not, ◌&&◌, ℕ, suc, ◌≤◌, ◌<◌}
use Rattle.std.proofs.Math.Path.{refl, sym, ap, ap₂, fun_ext}
use Rattle.std.proofs.Common.{◌∙◌, le_trans, arith}
use Rattle.std.proofs.Math.Bool.{◌||◌}
use mathlib.Core.List.{List, [], ◌∷◌, ◌++◌}
use Rattle.std.proofs.Math.Option.{Option, none, some}
use Rattle.std.proofs.Math.Nat.{le_refl}
use Rattle.std.proofs.Math.ListN.{length}
use Rattle.rules.specs.Base.{Res, M, then, ◌>>◌, each, for_each, all, any}
use Rattle.rules.specs.Concept.{Concept}
use Rattle.rules.specs.Concept.{Top, Bot, Atomic, Nominal, SelfRestriction, Not, And, Or, Some, All, Min, Max}
use Rattle.rules.specs.Pool.{Pool, at, mk_and, mk_or}
use Rattle.rules.specs.Normalize.{St, back_in, in_pool, nnf_complement}
use Rattle.rules.specs.State.{Env, Out, E, restarted, restart_vars}
use Rattle.rules.specs.Antecedents.{Alternatives, encode_antecedent}
use Rattle.rules.specs.Heads.{emit_head}
use Rattle.rules.specs.Axioms.{Clausifier, C, visited_to, back_nnf, in_nnf, back_out, in_out, conjuncts, Parts, emit_bodies, sorted, partition, soft_and, bodies_or_defer, absorb_parts, absorb_hard_antecedent, gci_with, clausify_gci}
use Rattle.rules.specs.Post.{Post, gives, give, refuses, post_then, post_map, post_every}
use Rattle.rules.specs.Invariants.{Each, Bounds, Wf, Grown}
use Rattle.rules.specs.PoolLaws.{grown_refl, grown_trans, grown_length, below_more}
use Rattle.rules.specs.Semantics.{Interpretation, with_classes, concept_means, means, implies}
use Rattle.rules.specs.EachLaws.{each_append}
use Rattle.rules.proofs.AxiomLaws.{conjuncts_in}
use Rattle.meaning.specs.Truth.{or_none, and_unit, all_append, any_append, implies_both, or_nots}
use Rattle.meaning.specs.Valuations.{Valuation}
use Rattle.meaning.specs.Adds.{Nothing, Setting}
use Rattle.meaning.proofs.Antecedents.{Quiet, quiet_trans, Coded, coded_reads, encode_means}
use Rattle.meaning.proofs.Added.{Stable, each_stable, Added, adds_added, added_none, added_map, added_then, quiet_added, added_grown}
use Rattle.meaning.proofs.Finite.{MadeAs, means_grown, means_at, and_means, or_means, negation_means}
use Rattle.meaning.proofs.Heads.{emit_means}
use Rattle.meaning.proofs.Inclusions.{Included, restart_quiet, antecedent_coded, bodies_mean, soft_means}

-- ---- steps in one of the two states
module _ {A D : Type 0} {Q : D → Clausifier → Type 0} where
  pub nnf_then : {P : A → St → Type 0} (z : Clausifier) (f : M St A) (k : A → C D) → Post P (f (record { pool = z.pool; visits = z.out.visits; limit = z.out.limit }))
      → ((a : A) (t : St) → P a t → Post Q (k a (record { pool = t.pool; out = visited_to t.visits z.out }))) → Post Q (then (in_nnf f z) k)
  nnf_then {P} z f k h g = go h
    where
      go : {r : Res St A} → Post P r → Post Q (then (back_nnf z r) k)
      go (gives {a = a} {s = s} p) = g a s p
      go refuses = refuses

  pub pool_then : {P : A → Pool → Type 0} (z : Clausifier) (f : M Pool A) (k : A → C D) → Post P (f z.pool)
      → ((a : A) (q : Pool) → P a q → Post Q (k a (record { pool = q; out = z.out }))) → Post Q (then (in_nnf (in_pool f) z) k)
  pool_then {P} z f k h g = go h
    where
      go : {r : Res Pool A} → Post P r → Post Q (then (back_nnf z (back_in (record { pool = z.pool; visits = z.out.visits; limit = z.out.limit }) r)) k)
      go (gives {a = a} {s = s} p) = g a s p
      go refuses = refuses

  pub out_then : {P : A → Out → Type 0} (z : Clausifier) (f : Pool → E A) (k : A → C D) → Post P (f z.pool z.out)
      → ((a : A) (t : Out) → P a t → Post Q (k a (record { pool = z.pool; out = t }))) → Post Q (then (in_out f z) k)
  out_then {P} z f k h g = go h
    where
      go : {r : Res Out A} → Post P r → Post Q (then (back_out z r) k)
      go (gives {a = a} {s = s} p) = g a s p
      go refuses = refuses

pub out_last : {A : Type 0} {P : A → Out → Type 0} {Q : A → Clausifier → Type 0} (z : Clausifier) (f : Pool → E A) → Post P (f z.pool z.out)
    → ((a : A) (t : Out) → P a t → Q a (record { pool = z.pool; out = t })) → Post Q (in_out f z)
out_last {A} {P} {Q} z f h g = go h
  where
    go : {r : Res Out A} → Post P r → Post Q (back_out z r)
    go (gives {a = a} {s = s} p) = give (g a s p)
    go refuses = refuses

-- all of the ids
abbrev alls : Interpretation → Pool → List ℕ → ℕ → Bool
alls J p l x = all (λ c. means J p c x) l

alls_grown : (J : Interpretation) {p q : Pool} → Grown p q → (x : ℕ) (l : List ℕ) → Each (λ c. c < length p) l → alls J q l x ≡ alls J p l x
alls_grown J g x [] u = refl
alls_grown J g x (c ∷ l) u = ap₂ ◌&&◌ (ap (λ z. z x) (means_grown J g c u.0)) (alls_grown J g x l u.1)

-- ---- the conjuncts of an antecedent
parts_same : (J : Interpretation) (p : Pool) (c x : ℕ) (e : Concept) → means J p c ≡ concept_means J (means J p) e → alls J p (conjuncts c e) x ≡ means J p c x
parts_same J p c x Top q = and_unit (means J p c x)
parts_same J p c x Bot q = and_unit (means J p c x)
parts_same J p c x (Atomic _) q = and_unit (means J p c x)
parts_same J p c x (Nominal _) q = and_unit (means J p c x)
parts_same J p c x (SelfRestriction _) q = and_unit (means J p c x)
parts_same J p c x (Not _) q = and_unit (means J p c x)
parts_same J p c x (And l) q = ap (λ z. z x) (sym q)
parts_same J p c x (Or _) q = and_unit (means J p c x)
parts_same J p c x (Some _ _) q = and_unit (means J p c x)
parts_same J p c x (All _ _) q = and_unit (means J p c x)
parts_same J p c x (Min _ _ _) q = and_unit (means J p c x)
parts_same J p c x (Max _ _ _) q = and_unit (means J p c x)

-- ---- the negations of a list
pub record Negated (B : Bounds) (J : Interpretation) (s : St) (l ks : List ℕ) (t : St) : Type 0 where
  pub grows : Grown s.pool t.pool
  pub wf : Wf B t.pool
  pub held : Each (λ i. i < length t.pool) ks
  pub says : (x : ℕ) → any (λ c. means J t.pool c x) ks ≡ not (alls J s.pool l x)

each_negated : (B : Bounds) (J : Interpretation) (l : List ℕ) (s : St) → Wf B s.pool → Each (λ c. c < length s.pool) l → Post (Negated B J s l) (each nnf_complement l s)
unfolding each
each_negated B J [] s w h = give (record { grows = grown_refl s.pool; wf = w; held = tt; says = λ x. refl })
each_negated B J (c ∷ l) s w h =
    post_then (negation_means J B (suc c) c s w h.0 (le_refl (suc c))) (λ k t N.
    post_then (each_negated B J l t N.made.wf (below_more (grown_length N.made.grows) l h.1)) (λ ks u D.
    give (record {
      grows = grown_trans N.made.grows D.grows;
      wf = D.wf;
      held = (le_trans N.made.held (grown_length D.grows), D.held);
      says = λ x.
          ap₂ ◌||◌ (ap (λ z. z x) (means_grown J D.grows k N.made.held ∙ N.meaning)) (D.says x ∙ ap not (alls_grown J N.made.grows x l h.1))
          ∙ or_nots (means J s.pool c x) (alls J s.pool l x);
    })))

-- ---- what a rule over both states does to the pool
pub record Moved (B : Bounds) (z t : Clausifier) : Type 0 where
  pub grows : Grown z.pool t.pool
  pub wf : Wf B t.pool

abbrev pub moved_trans : (B : Bounds) (z t u : Clausifier) → Moved B z t → Moved B t u → Moved B z u
moved_trans B z t u M N = record { grows = grown_trans M.grows N.grows; wf = N.wf }

abbrev pub moved_still : (B : Bounds) (z : Clausifier) → Wf B z.pool → Moved B z z
moved_still B z w = record { grows = grown_refl z.pool; wf = w }

module _ (I : Interpretation) (B : Bounds) (env : Env) (base : ℕ) (S : Setting I B env base) where
  -- a rule over both states: H and C of the valuations
  -- the limits that wait are read in the pool after it
  pub record Works (z : Clausifier) (H C : Valuation → Type 0) (t : Clausifier) : Type 0 where
    pub moved : Moved B z t
    pub added : Added I B env base S t.pool moved.wf z.out H (Nothing I B env base S t.pool moved.wf) C t.out

  -- one such rule after another, and loops of them
  pub works_then : {z t u : Clausifier} {H₁ C₁ H₂ C₂ : Valuation → Type 0} → base ≤ z.out.next_fresh → Stable base H₂ → Works z H₁ C₁ t → Works t H₂ C₂ u → Works z (λ k. H₁ k × H₂ k) (λ k. C₁ k × C₂ k) u
  works_then {z} {t} {u} b st A D = record {
    moved = moved_trans B z t u A.moved D.moved;
    added = added_then I B env base S u.pool D.moved.wf b st (added_grown I B env base S A.moved.wf D.moved.wf D.moved.grows A.added) D.added;
  }

  pub works_each : {A : Type 0} (P : A → Type 0) (H G : A → Valuation → Type 0) (f : A → M Clausifier (Unit {0})) → ((a : A) → P a → Stable base (H a)) → (z : Clausifier)
      → ((a : A) → P a → (t : Clausifier) → Moved B z t → base ≤ t.out.next_fresh → Post (λ _ u. Works t (H a) (G a) u) (f a t))
      → (l : List A) → Each P l → (t : Clausifier) → Moved B z t → base ≤ t.out.next_fresh → Post (λ _ u. Works t (λ k. Each (λ a. H a k) l) (λ k. Each (λ a. G a k) l) u) (for_each f l t)
  unfolding for_each
  works_each P H G f st z one [] u t g b = give (record { moved = moved_still B t g.wf; added = added_none I B env base S t.pool g.wf t.out (λ k m. tt) })
  works_each P H G f st z one (a ∷ l) u t g b =
      post_then (one a u.0 t g b) (λ _ t₁ A.
      post_map (works_each P H G f st z one l u.1 t₁ (moved_trans B z t t₁ g A.moved) (omega (arith, A.added.fresh))) (λ _ t₂ D.
      works_then b (each_stable base P H st l u.1) A D))

  -- ---- soft and hard parts
  module _ (p : Pool) (w : Wf B p) where
    pub record Parted (s : Out) (l soft hard : List ℕ) (ps : Parts) (t : Out) : Type 0 where
      pub quiet : Quiet s t
      pub soft_in : Each (λ c. c < length p) ps.soft
      pub hard_in : Each (λ c. c < length p) ps.hard
      pub same : (J : Interpretation) (x : ℕ) → alls J p ps.soft x && alls J p ps.hard x ≡ (alls J p soft x && alls J p hard x) && alls J p l x

    hard_one : (a b c d : Bool) → (a && (b && (c && true))) && d ≡ (a && b) && (c && d)
    hard_one true true true d = refl
    hard_one true true false d = refl
    hard_one true false c d = refl
    hard_one false b c d = refl

    soft_one : (a b c d : Bool) → ((a && (c && true)) && b) && d ≡ (a && b) && (c && d)
    soft_one true true true d = refl
    soft_one true true false d = refl
    soft_one true false true d = refl
    soft_one true false false d = refl
    soft_one false b c d = refl

    partition_parts : (l soft hard : List ℕ) (s : Out) → Each (λ c. c < length p) l → Each (λ c. c < length p) soft → Each (λ c. c < length p) hard
        → Post (λ ps t. Parted s l soft hard ps t) (partition env p l soft hard s)
    unfolding partition restart_vars
    partition_parts [] soft hard s u v i = give (record { quiet = record { clauses = refl; deferrals = refl; fresh = refl; limits = refl; line = refl }; soft_in = v; hard_in = i; same = λ J x. sym (and_unit (alls J p soft x && alls J p hard x)) })
    partition_parts (c ∷ l) soft hard s u v i =
        post_then (encode_means I B env base S p w (suc c) c 0 (restarted s) (le_refl (suc c)) u.0 (le_refl 1)) (λ o s₁ A.
        go o s₁ (quiet_trans (restart_quiet s) (coded_reads I B env base S (restarted s) s₁ (λ k. means (with_classes I k) p c) 0 o A).quiet) (λ soft hard v i. partition_parts l soft hard s₁ u.1 v i))
      where
        go : (o : Option Alternatives) (s₁ : Out) → Quiet s s₁
            → ((soft hard : List ℕ) → Each (λ c. c < length p) soft → Each (λ c. c < length p) hard → Post (λ ps t. Parted s₁ l soft hard ps t) (partition env p l soft hard s₁))
            → Post (λ ps t. Parted s (c ∷ l) soft hard ps t) (sorted env (λ a b. partition env p l a b) soft hard c o s₁)
        go none s₁ Q rest = post_map (rest soft (hard ++ (c ∷ [])) v (each_append (λ c. c < length p) hard (c ∷ []) i (u.0, tt))) (λ ps t Z. record {
          quiet = quiet_trans Q Z.quiet;
          soft_in = Z.soft_in;
          hard_in = Z.hard_in;
          same = λ J x. Z.same J x ∙ ap (λ z. (alls J p soft x && z) && alls J p l x) (all_append (λ c. means J p c x) hard (c ∷ [])) ∙ hard_one (alls J p soft x) (alls J p hard x) (means J p c x) (alls J p l x);
        })
        go (some k) s₁ Q rest = post_map (rest (soft ++ (c ∷ [])) hard (each_append (λ c. c < length p) soft (c ∷ []) v (u.0, tt)) i) (λ ps t Z. record {
          quiet = quiet_trans Q Z.quiet;
          soft_in = Z.soft_in;
          hard_in = Z.hard_in;
          same = λ J x. Z.same J x ∙ ap (λ z. (z && alls J p hard x) && alls J p l x) (all_append (λ c. means J p c x) soft (c ∷ [])) ∙ soft_one (alls J p soft x) (alls J p hard x) (means J p c x) (alls J p l x);
        })

  -- the soft part, as one concept
  soft_then : {Q : Unit {0} → Clausifier → Type 0} (a : ℕ) (soft : List ℕ) (z : Clausifier) (k : ℕ → C (Unit {0})) → Wf B z.pool → Each (λ c. c < length z.pool) (a ∷ soft)
      → ((g : ℕ) (q : Pool) → ((J : Interpretation) → MadeAs J B z.pool (λ x. alls J z.pool (a ∷ soft) x) g q) → Post Q (k g (record { pool = q; out = z.out })))
      → Post Q (then (soft_and env (a ∷ soft) z) k)
  soft_then a [] z k w u h = h a z.pool (λ J. record { made = record { grows = grown_refl z.pool; wf = w; held = u.0 }; meaning = fun_ext (λ x. sym (and_unit (means J z.pool a x))) })
  soft_then a (b ∷ l) z k w u h = pool_then z (mk_and (a ∷ b ∷ l)) k (post_every (λ (J : Interpretation). and_means J B z.pool w (a ∷ b ∷ l) u)) h

  module _ (p : Pool) (w : Wf B p) (sub sup : ℕ) (ksub : sub < length p) (ksup : sup < length p) where
    -- no soft part: Top is below not sub or sup
    none_means : (s : Out) (hard : List ℕ) → base ≤ s.next_fresh
        → Post (λ _ t. Works (record { pool = p; out = s }) (Included I p sub sup) (Included I p sub sup) t) (absorb_parts env sub sup [] hard (record { pool = p; out = s }))
    unfolding absorb_parts restart_vars
    none_means s hard b =
        nnf_then (record { pool = p; out = s }) (nnf_complement sub) _
        (post_every (λ (J : Interpretation). negation_means J B (suc sub) sub (record { pool = p; visits = s.visits; limit = s.limit }) w ksub (le_refl (suc sub)))) (λ a t M.
        pool_then (record { pool = t.pool; out = visited_to t.visits s }) (mk_or (a ∷ sup ∷ [])) _
        (post_every (λ (J : Interpretation). or_means J B t.pool (M I).made.wf (a ∷ sup ∷ []) ((M I).made.held, (le_trans ksup (grown_length (M I).made.grows), tt)))) (λ h q N.
        out_last (record { pool = q; out = visited_to t.visits s }) (λ pool. restart_vars >> emit_head env pool [] h 0)
        (emit_means I B env base S q (N I).made.wf (suc h) [] h 0 (restarted (visited_to t.visits s)) (N I).made.held (le_refl (suc h)) (record { above = b; root = le_refl 1; var = le_refl 1; under = tt; vars = tt })) (λ _ s₁ A.
        let is : (J : Interpretation) (x : ℕ) → means J q h x ≡ implies (means J p sub x) (means J p sup x) =
        λ J x. ap (λ z. z x) (N J).meaning ∙ ap₂ (λ y z. y || z) (ap (λ z. z x) (M J).meaning) (or_none (means J t.pool sup x) ∙ ap (λ z. z x) (means_grown J (M J).made.grows sup ksup)) in
        record {
          moved = record { grows = grown_trans (M I).made.grows (N I).made.grows; wf = (N I).made.wf };
          added = quiet_added I B env base S q (N I).made.wf (record { clauses = refl; deferrals = refl; fresh = refl; limits = refl; line = refl }) (added_map I B env base S q (N I).made.wf
              (λ k m i f c _. is (with_classes I k) (f 0) ∙ i (f 0) (c 0))
              (λ k m i x l. sym (is (with_classes I k) x) ∙ i (λ _. x) (λ _. l) refl)
              (adds_added I B env base S q (N I).made.wf A));
        })))

    -- the soft part is below the hard parts' negations or sup
    some_means : (s : Out) (a : ℕ) (soft hard : List ℕ) → base ≤ s.next_fresh → Each (λ c. c < length p) (a ∷ soft) → Each (λ c. c < length p) hard
        → ((J : Interpretation) (x : ℕ) → alls J p (a ∷ soft) x && alls J p hard x ≡ means J p sub x)
        → Post (λ _ t. Works (record { pool = p; out = s }) (Included I p sub sup) (Included I p sub sup) t) (absorb_parts env sub sup (a ∷ soft) hard (record { pool = p; out = s }))
    unfolding absorb_parts restart_vars
    some_means s a soft hard b us uh same =
        nnf_then (record { pool = p; out = s }) (each nnf_complement hard) _
        (post_every (λ (J : Interpretation). each_negated B J hard (record { pool = p; visits = s.visits; limit = s.limit }) w uh)) (λ ns t M.
        pool_then (record { pool = t.pool; out = visited_to t.visits s }) (mk_or (ns ++ (sup ∷ []))) _
        (post_every (λ (J : Interpretation). or_means J B t.pool (M I).wf (ns ++ (sup ∷ [])) (each_append (λ c. c < length t.pool) ns (sup ∷ []) (M I).held (le_trans ksup (grown_length (M I).grows), tt)))) (λ h q N.
        let g₁ : Grown p q = grown_trans (M I).grows (N I).made.grows in
        soft_then a soft (record { pool = q; out = visited_to t.visits s }) (λ g. in_out (λ pool s. then (encode_antecedent env pool g 0 (restarted s)) (λ o. bodies_or_defer env pool h o))) (N I).made.wf (below_more (grown_length g₁) (a ∷ soft) us) (λ g r O.
        out_last (record { pool = r; out = visited_to t.visits s }) (λ pool s. then (encode_antecedent env pool g 0 (restarted s)) (λ o. bodies_or_defer env pool h o))
        (soft_means I B env base S r (O I).made.wf g h (O I).made.held (le_trans (N I).made.held (grown_length (O I).made.grows)) (visited_to t.visits s) b) (λ _ s₁ A.
        let soft_is : (J : Interpretation) (x : ℕ) → means J r g x ≡ alls J p (a ∷ soft) x =
        λ J x. ap (λ z. z x) (O J).meaning ∙ alls_grown J g₁ x (a ∷ soft) us in
        let head_is_lem : (J : Interpretation) (x : ℕ) → means J r h x ≡ implies (alls J p hard x) (means J p sup x) =
        λ J x. ap (λ z. z x) (means_grown J (O J).made.grows h (N J).made.held ∙ (N J).meaning)
        ∙ any_append (λ c. means J t.pool c x) ns (sup ∷ [])
        ∙ ap₂ ◌||◌ ((M J).says x) (or_none (means J t.pool sup x) ∙ ap (λ z. z x) (means_grown J (M J).grows sup ksup)) in
        let is : (J : Interpretation) (x : ℕ) → implies (means J r g x) (means J r h x) ≡ implies (means J p sub x) (means J p sup x) =
        λ J x. ap₂ implies (soft_is J x) (head_is_lem J x) ∙ implies_both (alls J p (a ∷ soft) x) (alls J p hard x) (means J p sup x) ∙ ap (λ z. implies z (means J p sup x)) (same J x) in
        record {
          moved = record { grows = grown_trans g₁ (O I).made.grows; wf = (O I).made.wf };
          added = quiet_added I B env base S r (O I).made.wf (record { clauses = refl; deferrals = refl; fresh = refl; limits = refl; line = refl }) (added_map I B env base S r (O I).made.wf
              (λ k m i x l. is (with_classes I k) x ∙ i x l)
              (λ k m i x l. sym (is (with_classes I k) x) ∙ i x l) A);
        }))))

    -- parts, and one of the two
    pub absorb_means : (s : Out) → base ≤ s.next_fresh
        → Post (λ _ t. Works (record { pool = p; out = s }) (Included I p sub sup) (Included I p sub sup) t) (absorb_hard_antecedent env sub sup (record { pool = p; out = s }))
    unfolding absorb_hard_antecedent
    absorb_means s b =
        out_then (record { pool = p; out = s }) (λ pool. partition env pool (conjuncts sub (at pool sub)) [] []) _
        (partition_parts p w (conjuncts sub (at p sub)) [] [] s (conjuncts_in B (length p) sub ksub (at p sub) (w sub ksub)) tt tt) (λ ps s₁ Z.
        post_map (go s₁ ps.soft ps.hard (le_trans b (omega (arith, Z.quiet.fresh))) Z.soft_in Z.hard_in
        (λ J x. Z.same J x ∙ parts_same J p sub x (at p sub) (means_at J B p w sub ksub)))
        (λ _ t D. record { moved = record { grows = D.moved.grows; wf = D.moved.wf }; added = quiet_added I B env base S t.pool D.moved.wf Z.quiet D.added }))
      where
        go : (s₁ : Out) (soft hard : List ℕ) → base ≤ s₁.next_fresh → Each (λ c. c < length p) soft → Each (λ c. c < length p) hard
            → ((J : Interpretation) (x : ℕ) → alls J p soft x && alls J p hard x ≡ means J p sub x)
            → Post (λ _ t. Works (record { pool = p; out = s₁ }) (Included I p sub sup) (Included I p sub sup) t) (absorb_parts env sub sup soft hard (record { pool = p; out = s₁ }))
        go s₁ [] hard b₁ us uh same = none_means s₁ hard b₁
        go s₁ (a ∷ soft) hard b₁ us uh same = some_means s₁ a soft hard b₁ us uh same

  -- ---- the whole rule
  pub inclusion_means : (sub sup : ℕ) (z : Clausifier) → Wf B z.pool → sub < length z.pool → sup < length z.pool → base ≤ z.out.next_fresh
      → Post (λ _ t. Works z (Included I z.pool sub sup) (Included I z.pool sub sup) t) (clausify_gci env sub sup z)
  unfolding clausify_gci restart_vars
  inclusion_means sub sup z w ksub ksup b =
      out_then z (λ pool. restart_vars >> encode_antecedent env pool sub 0) _ (antecedent_coded I B env base S z.pool w sub sup ksub ksup z.out b) go
    where
      go : (o : Option Alternatives) (s₁ : Out) → Coded I B env base S (restarted z.out) (λ k. means (with_classes I k) z.pool sub) 0 o s₁
          → Post (λ _ t. Works z (Included I z.pool sub sup) (Included I z.pool sub sup) t) (gci_with env sub sup o (record { pool = z.pool; out = s₁ }))
      go none s₁ A =
          let Q : Quiet z.out s₁ = quiet_trans (restart_quiet z.out) A.quiet in
          post_map (absorb_means z.pool w sub sup ksub ksup s₁ (omega (arith, Q.fresh)))
          (λ _ t D. record { moved = record { grows = D.moved.grows; wf = D.moved.wf }; added = quiet_added I B env base S t.pool D.moved.wf Q D.added })
      go (some l) s₁ A = out_last (record { pool = z.pool; out = s₁ }) (λ pool. emit_bodies env pool l sup)
          (bodies_mean I B env base S z.pool w sub sup ksub ksup z.out b l s₁ A)
          (λ _ t D. record { moved = record { grows = grown_refl z.pool; wf = w }; added = D })
