-- The passes together, in one interpretation that satisfies the deck's inverse-role axioms: what the run's last state means, both
-- halves. Assumes nothing.
use Rattle.std.specs.Prelude.{◌≡◌, Bool, true, false, not, ◌||◌, List, [], map, ℕ, ◌≤◌, length}
use Rattle.std.proofs.Math.Path.{refl}
use Rattle.std.proofs.Common.{sym, ap, ◌∙◌, le_refl, arith}
use Rattle.ir.specs.Options.{body_decompose, equal_names, follow_roles}
use Rattle.rules.specs.Base.{all}
use Rattle.rules.specs.Concept.{Axiom}
use Rattle.rules.specs.Normalize.{St}
use Rattle.rules.specs.State.{Env, Rooms, Out}
use Rattle.rules.specs.Axioms.{Clausifier}
use Rattle.rules.specs.PoolLaws.{grown_refl}
use Rattle.rules.specs.LimitLaws.{wf_up}
use Rattle.rules.specs.Reflexive.{reflexive_role_ids}
use Rattle.rules.specs.Deck.{Known, axiom_line}
use Rattle.rules.specs.Run.{at_line, decomposition, late_passes, first_fresh, env_of, start, clausify_normal}
use Rattle.rules.specs.Post.{Post, give, post_then, post_map}
use Rattle.rules.specs.LinedPost.{LinedPost, lined_post, lined_then_lem, lined_both}
use Rattle.rules.specs.Invariants.{Each, Wf, AxiomIn}
use Rattle.rules.proofs.NormalizeLaws.{nnf_axioms_made}
use Rattle.rules.specs.DeckLaws.{bounds_of, DeckIn}
use Rattle.rules.proofs.RunLaws.{deck_run}
use Rattle.rules.specs.Semantics.{Interpretation, with_classes, satisfied}
use Rattle.rules.specs.Statements.{Proper, is_inverse_axiom, is_clausified, satisfies_some, satisfies_all}
use Rattle.rules.specs.EachLaws.{each_left}
use Rattle.meaning.specs.Truth.{all_each, each_all}
use Rattle.meaning.specs.Choices.{Follows}
use Rattle.meaning.specs.Valuations.{Valuation, Agree, agree_trans, ClauseUnder, each_of_lem}
use Rattle.meaning.specs.Adds.{FineAtom, Fine, Setting, Alone}
use Rattle.meaning.proofs.Finite.{nnf_axioms_mean}
use Rattle.meaning.specs.InverseMap.{env_keeps}
use Rattle.meaning.proofs.Axioms.{Clausified, Whole, axioms_mean}
use Rattle.meaning.specs.Passes.{PassMeans}
use Rattle.meaning.specs.ReflexivePasses.{passes_mean, own_follow}
use Rattle.meaning.specs.Decomposition.{Decomposed, decompose_means, decomposed_heads}
use Rattle.meaning.specs.Kinds.{SameKinds, nnf_kinds, some_same, every_same}

-- where the clauses after the late passes hold, those before them do
pub late_back : (I : Interpretation) (env : Env) (axioms : List Axiom) (wide : Bool) (t : Out) → Each (ClauseUnder t.next_fresh) t.clauses
    → Post (λ _ u. Each (Follows I) u.clauses → Each (Follows I) t.clauses) (late_passes env axioms wide t)
unfolding late_passes
late_back I env axioms wide t w = post_then (passes_mean env (reflexive_role_ids env axioms) t) (λ _ u A.
    post_map (go wide u (rw A.fresh (A.under t.next_fresh w))) (λ _ v back f. each_left (Follows I) t.clauses A.new (rw A.grown at (back f))))
  where
    go : (wide : Bool) (u : Out) → Each (ClauseUnder u.next_fresh) u.clauses → Post (λ _ v. Each (Follows I) v.clauses → Each (Follows I) u.clauses) (decomposition env wide u)
    go false u h = give (λ f. f)
    go true u h = post_map (decompose_means I env u h) (λ _ v A f. A.says I.class f)

module _ (I : Interpretation) (d : Known) (D : DeckIn d) (P : Proper d I) (inverses : satisfies_some is_inverse_axiom d I ≡ true) where
  -- what a state of the run means
  pub record Means (s : Out) : Type 0 where
    pub above : first_fresh d ≤ s.next_fresh
    pub under : Each (ClauseUnder s.next_fresh) s.clauses
    pub gets : satisfies_all d I ≡ true → (l : Valuation) × Agree (first_fresh d) I.class l × Each (Follows (with_classes I l)) s.clauses
    pub says : Each (Follows I) s.clauses → (equal_names d.header.options ≡ false → Each (Fine (first_fresh d)) s.clauses) → d.keys ≡ [] → length s.deferrals ≡ 0 → satisfies_some is_clausified d I ≡ true

  alone : (rooms : Rooms) (axioms : List Axiom) → Alone I (bounds_of d) (env_of d rooms axioms) I.class
  alone rooms axioms = record { alone = P.alone }

  module _ (rooms : Rooms) (axioms : List Axiom) (s : St) (K : SameKinds d.axioms axioms) (same : map (satisfied I s.pool) axioms ≡ map (satisfied I d.concepts) d.axioms) where
    abbrev env : Env
    env = env_of d rooms axioms

    -- the map of inverses keeps the pairs
    pub setting : Setting I (bounds_of d) env (first_fresh d)
    setting = record {
      classes = omega arith;
      individuals = λ i h. omega arith;
      keeps = λ r x y. env_keeps I (follow_roles d.header.options) env s.pool axioms refl (some_same is_inverse_axiom (satisfied I s.pool) (satisfied I d.concepts) axioms d.axioms K.inverse same ∙ inverses) r x y;
    }

    normal : satisfies_all d I ≡ true → all (satisfied I s.pool) axioms ≡ true
    normal h = every_same (satisfied I s.pool) (satisfied I d.concepts) axioms d.axioms same ∙ h

    -- ---- after the last axiom
    clausified : (z : Clausifier) → Whole I (bounds_of d) env (first_fresh d) setting (start d s) (λ k. Each (λ a. satisfied (with_classes I k) s.pool a ≡ true) axioms)
        (λ k. Each (λ a. Clausified a → satisfied (with_classes I k) s.pool a ≡ true) axioms) z → Means (at_line 0 z.out)
    clausified z A = record {
      above = A.fresh;
      under = rw A.grown A.under;
      gets = λ h. let x = A.gets I.class (alone rooms axioms) (all_each (satisfied I s.pool) axioms (normal h)) in (x.0, x.1, rw A.grown x.2);
      says = λ f n q e.
          sym (some_same is_clausified (satisfied I s.pool) (satisfied I d.concepts) axioms d.axioms K.clausified same)
          ∙ each_all (λ a. not (is_clausified a) || satisfied I s.pool a) axioms (each_of_lem one axioms (A.says I.class (alone rooms axioms) (rw A.grown at f) (λ o. rw A.grown at (n o)) q e));
    }
      where
        one : (a : Axiom) → (Clausified a → satisfied I s.pool a ≡ true) → not (is_clausified a) || satisfied I s.pool a ≡ true
        one a h = go (is_clausified a) h
          where
            go : (b : Bool) → (b ≡ true → satisfied I s.pool a ≡ true) → not b || satisfied I s.pool a ≡ true
            go true g = g refl
            go false g = refl

    -- ---- the passes after it
    passed : (t u : Out) → PassMeans (reflexive_role_ids env axioms) t u → Means t → Means u
    passed t u A M = record {
      above = omega (arith, M.above, A.fresh);
      under = rw A.fresh (A.under t.next_fresh M.under);
      gets = λ h. let x = M.gets h in (x.0, x.1, own_follow I (follow_roles d.header.options) env s.pool axioms refl (normal h) t u A x.0 x.2);
      says = λ f n q e. M.says (each_left (Follows I) t.clauses A.new (rw A.grown at f)) (λ o. each_left (Fine (first_fresh d)) t.clauses A.new (rw A.grown at (n o))) q (omega (arith, A.defers, e));
    }

    decomposed : (t u : Out) → Decomposed I t u → Means t → Means u
    decomposed t u A M = record {
      above = omega (arith, M.above, A.fresh);
      under = A.under;
      gets = λ h. let x = M.gets h in let y = A.gets x.0 x.2 in (y.0, agree_trans M.above x.1 y.1, y.2);
      says = λ f n q e. M.says (A.says I.class f) (λ o. decomposed_heads I t u (FineAtom (first_fresh d)) A (n o)) q (ap length (sym A.deferrals) ∙ e);
    }

    decomposition_means : (wide : Bool) (t : Out) → Means t → Post (λ _ u. Means u) (decomposition env wide t)
    decomposition_means false t M = give M
    decomposition_means true t M = post_map (decompose_means I env t M.under) (λ _ u A. decomposed t u A M)

    late_means : (wide : Bool) (t : Out) → Means t → Post (λ _ u. Means u) (late_passes env axioms wide t)
    unfolding late_passes
    late_means wide t M = post_then (passes_mean env (reflexive_role_ids env axioms) t) (λ _ u A. decomposition_means wide u (passed t u A M))

    normal_means : Wf (bounds_of d) s.pool → Each (AxiomIn (bounds_of d) (length s.pool)) axioms → LinedPost (λ _ u. Means u) (clausify_normal d rooms axioms s)
    unfolding clausify_normal
    normal_means w inside =
        lined_then_lem (axioms_mean I (bounds_of d) env (first_fresh d) setting s.pool w (axiom_line d 0) axioms (start d s) (grown_refl s.pool) (wf_up (bounds_of d) {m = (bounds_of d).classes} (omega arith) s.pool w)
        (le_refl (first_fresh d)) refl inside)
        (λ _ z X. lined_post 0 (late_means (body_decompose d.header.options) (at_line 0 z.out) (clausified z X)))

  -- ---- the run of the deck
  pub run_means : (limit : ℕ) (rooms : Rooms) → LinedPost (λ _ u. Means u) (deck_run limit rooms d)
  run_means limit rooms =
      let s : St = record { pool = d.concepts; visits = 0; limit = limit } in
      lined_then_lem (lined_both (nnf_kinds (axiom_line d 0) d.axioms s) (lined_both (nnf_axioms_made (bounds_of d) (axiom_line d 0) d.axioms s D.wf D.axioms) (nnf_axioms_mean I (bounds_of d) (axiom_line d 0) d.axioms s D.wf D.axioms)))
      (λ axioms t X. normal_means rooms axioms t X.0 X.1.1.1 X.1.0.ran.wf X.1.0.inside)
