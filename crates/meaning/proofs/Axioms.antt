-- Axioms: clausify_axiom says each axiom of kinds 21 to 31, both halves, and adds nothing for the others; and so for all axioms
-- of a run. Assumes nothing.
use Rattle.std.specs.Prelude.{◌≡◌, Bool, true, false, ◌&&◌, ℕ, suc, ◌+◌, ◌≤◌, ◌<◌, eqb}
use Rattle.std.proofs.Math.Path.{refl, sym}
use Rattle.std.proofs.Common.{ap, ap₂, ◌∙◌, subst, le_trans, arith}
use Rattle.std.proofs.lemmas.Bool.{false≢true}
use mathlib.Core.List.{List, [], ◌∷◌, ◌++◌, append-nil, append_assoc}
use Rattle.std.proofs.Math.Nat.{le_refl}
use Rattle.std.proofs.Math.ListN.{length}
use Rattle.ir.specs.Roles.{role_code}
use Rattle.ir.specs.declared.atom.Atom.{Atom}
use Rattle.ir.specs.declared.atom.Atom.TheVariants.{Class, Exists, AtMost, AtLeast, Equal, Role as RoleAtom}
use Rattle.std.specs.Prelude.{None, Some}
use Rattle.ir.specs.declared.deferral.Deferral.TheVariants.{DisjointAntecedent}
use Rattle.rules.specs.Base.{Res, ok, refused, then, ◌>>◌, all, for_each}
use Rattle.rules.specs.Concept.{Axiom}
use Rattle.rules.specs.Concept.{SubClassOf, EquivalentClasses, DisjointClasses, DisjointUnion, ObjectPropertyDomain, ObjectPropertyRange, SubChain, TransitiveRole, IrreflexiveRole, AsymmetricRole, DisjointObjectProperties, InverseObjectProperties, SubObjectPropertyOf, EquivalentObjectProperties, ReflexiveRole, ClassAssertion}
use Rattle.rules.specs.Pool.{Pool}
use Rattle.rules.specs.State.{Clause, Env, Out, E, canon, restart_vars, push, defer}
use Rattle.rules.specs.Axioms.{Clausifier, C, back_out, in_out, later_pairs, ordered_pairs, clausify_gci, disjoint_pair, union_member, cover, domain, range, chain, chain_of, asymmetric, disjoint_roles, clausify_axiom, clausify_whole}
use Rattle.rules.specs.Run.{clausifier_at, clausify_axioms}
use Rattle.rules.specs.Post.{Post, give, post_then, post_map}
use Rattle.rules.specs.Invariants.{Each, Bounds, up_to, Wf, Grown, AxiomIn}
use Rattle.rules.specs.PoolLaws.{grown_refl, grown_trans, grown_length, post_both}
use Rattle.rules.proofs.NormalizeLaws.{axiom_more}
use Rattle.rules.specs.LimitLaws.{wf_up, axiom_up}
use Rattle.rules.proofs.WholeLaws.{axiom_leaves, whole_alone}
use Rattle.rules.specs.Handed.{names_limits}
use Rattle.rules.specs.LinedPost.{LinedPost, finish, lined_post, lined_then_lem, lined_map}
use Rattle.rules.specs.EachLaws.{each_both, each_append, each_left, each_right}
use Rattle.rules.specs.Semantics.{Interpretation, with_classes, means, implies, same_truth, satisfied}
use Rattle.rules.specs.Statements.{is_clausified}
use Rattle.meaning.specs.Truth.{by_truth, and_left, and_right, and_both, all_elements, elements_all, all_each, each_all}
use Rattle.meaning.specs.Valuations.{Valuation, Agree, agree_refl, agree_trans, ClauseUnder, each_of_lem, clause_under_more, follow_agree}
use Rattle.meaning.specs.Adds.{FineAtom, Fine, Setting, Alone, alone_agree, Nothing}
use Rattle.meaning.proofs.Added.{Stable, each_stable, agree_below, Added, added_none, added_map}
use Rattle.meaning.proofs.Finite.{means_grown, satisfied_grown}
use Rattle.meaning.specs.AxiomAgree.{satisfied_agree}
use Rattle.meaning.proofs.Inclusions.{Included, included_stable}
use Rattle.meaning.proofs.Absorb.{out_then, out_last, Moved, moved_still, Works, works_each, inclusion_means}
use Rattle.meaning.proofs.Settle.{setting, alone_at, In, Held, Settled, settle_means}
use Rattle.meaning.specs.Choices.{Follows}
use Rattle.meaning.specs.Pairs.{every_each, each_every, later_each, ordered_of_later, later_of_ordered}
use Rattle.meaning.proofs.Disjoint.{pair_at, member_at, disjoint_means, union_pairs, union_members, union_cover, union_means}
use Rattle.meaning.proofs.RoleAxioms.{domain_means, range_means, chain_means, transitive_means, irreflexive_means, asymmetric_means, disjoint_roles_mean}

fine_atom_up : {m n : ℕ} → m ≤ n → (a : Atom) → FineAtom m a → FineAtom n a
fine_atom_up h (Class _ _) f = tt
fine_atom_up h (RoleAtom _ _ _) f = tt
fine_atom_up h (Exists _ _ _) f = tt
fine_atom_up h (AtMost _ None _ _) f = tt
fine_atom_up h (AtMost _ (Some c) _ _) f = le_trans f h
fine_atom_up h (AtLeast _ _ _ _) f = tt
fine_atom_up h (Equal _ _) f = tt

-- kinds 21 to 31
abbrev pub Clausified : Axiom → Type 0
Clausified a = is_clausified a ≡ true

-- the others add nothing: the rule leaves pool and clauses as they are
pub others_nothing : (env : Env) (a : Axiom) (z : Clausifier) → is_clausified a ≡ false → clausify_axiom env a z ≡ ok tt z
unfolding clausify_axiom
others_nothing env (SubClassOf _ _) z e = absurd (false≢true (sym e))
others_nothing env (EquivalentClasses _) z e = absurd (false≢true (sym e))
others_nothing env (DisjointClasses _) z e = absurd (false≢true (sym e))
others_nothing env (DisjointUnion _ _) z e = absurd (false≢true (sym e))
others_nothing env (ObjectPropertyDomain _ _) z e = absurd (false≢true (sym e))
others_nothing env (ObjectPropertyRange _ _) z e = absurd (false≢true (sym e))
others_nothing env (SubChain _ _) z e = absurd (false≢true (sym e))
others_nothing env (TransitiveRole _) z e = absurd (false≢true (sym e))
others_nothing env (IrreflexiveRole _) z e = absurd (false≢true (sym e))
others_nothing env (AsymmetricRole _) z e = absurd (false≢true (sym e))
others_nothing env (DisjointObjectProperties _) z e = absurd (false≢true (sym e))
others_nothing env (InverseObjectProperties _ _) z e = refl
others_nothing env (SubObjectPropertyOf _ _) z e = refl
others_nothing env (EquivalentObjectProperties _) z e = refl
others_nothing env (ReflexiveRole _) z e = refl
others_nothing env (ClassAssertion _ _) z e = refl

-- ---- loops of a rule that only reads the pool
out_each : {A : Type 0} (g : A → Pool → E (Unit {0})) (l : List A) (p : Pool) (s₀ s : Out)
    → for_each (λ a. in_out (g a)) l (record { pool = p; out = s }) ≡ back_out (record { pool = p; out = s₀ }) (for_each (λ a. g a p) l s)
unfolding for_each
out_each g [] p s₀ s = refl
out_each g (a ∷ l) p s₀ s = go (g a p s) (λ s₁. out_each g l p s₀ s₁)
  where
    go : (r : Res Out (Unit {0})) → ((s₁ : Out) → for_each (λ a. in_out (g a)) l (record { pool = p; out = s₁ }) ≡ back_out (record { pool = p; out = s₀ }) (for_each (λ a. g a p) l s₁))
        → then (back_out (record { pool = p; out = s }) r) (λ _. for_each (λ a. in_out (g a)) l) ≡ back_out (record { pool = p; out = s₀ }) (then r (λ _. for_each (λ a. g a p) l))
    go (ok u s₁) ih = ih s₁
    go (refused n) ih = refl

each_then : {A : Type 0} {P : Unit {0} → Out → Type 0} {R : Unit {0} → Clausifier → Type 0} (g : A → Pool → E (Unit {0})) (l : List A) (z : Clausifier) (k : Unit {0} → C (Unit {0}))
    → Post P (for_each (λ a. g a z.pool) l z.out) → ((u : Unit {0}) (t : Out) → P u t → Post R (k u (record { pool = z.pool; out = t }))) → Post R (then (for_each (λ a. in_out (g a)) l z) k)
each_then {R} g l z k h c = subst (λ r. Post R (then r k)) (sym (out_each g l z.pool z.out z.out)) (out_then z (λ pool. for_each (λ a. g a pool) l) k h c)

each_last : {A : Type 0} {P : Unit {0} → Out → Type 0} {R : Unit {0} → Clausifier → Type 0} (g : A → Pool → E (Unit {0})) (l : List A) (z : Clausifier)
    → Post P (for_each (λ a. g a z.pool) l z.out) → ((u : Unit {0}) (t : Out) → P u t → R u (record { pool = z.pool; out = t })) → Post R (for_each (λ a. in_out (g a)) l z)
each_last {R} g l z h c = subst (Post R) (sym (out_each g l z.pool z.out z.out)) (out_last z (λ pool. for_each (λ a. g a pool) l) h c)

module _ (I : Interpretation) (B : Bounds) (env : Env) (base : ℕ) (S : Setting I B env base) where
  abbrev pub Satisfied : Pool → Axiom → Valuation → Type 0
  Satisfied p a k = satisfied (with_classes I k) p a ≡ true

  abbrev pub Says : Clausifier → Axiom → Clausifier → Type 0
  Says z a t = Works I B env base S z (Satisfied z.pool a) (λ k. Clausified a → Satisfied z.pool a k) t

  -- a rule that only reads the pool
  read : {H C : Valuation → Type 0} (z : Clausifier) (w : Wf B z.pool) (t : Out) → Added I B env base S z.pool w z.out H (Nothing I B env base S z.pool w) H t
      → Works I B env base S z H (λ k. C k → H k) (record { pool = z.pool; out = t })
  read z w t A = record { moved = record { grows = grown_refl z.pool; wf = w }; added = added_map I B env base S z.pool w (λ k m h. h) (λ k m h _. h) A }

  -- an axiom that is read elsewhere
  nothing : (a : Axiom) → is_clausified a ≡ false → (z : Clausifier) → Wf B z.pool → Post (λ _ t. Says z a t) (ok (tt {0}) z)
  nothing a e z w = give (record { moved = moved_still B z w; added = added_none I B env base S z.pool w z.out (λ k m d. absurd (false≢true (sym e ∙ d))) })

  -- ---- equivalent classes: both inclusions of every two
  inclusions_mean : (l : List ℕ) (z : Clausifier) → Wf B z.pool → Each (λ c. c < length z.pool) l → base ≤ z.out.next_fresh
      → Post (λ _ t. Works I B env base S z (λ k. Each (λ q. Included I z.pool q.0 q.1 k) (ordered_pairs l)) (λ k. Each (λ q. Included I z.pool q.0 q.1 k) (ordered_pairs l)) t)
      (for_each (λ q. clausify_gci env q.0 q.1) (ordered_pairs l) z)
  inclusions_mean l z w u b =
      works_each I B env base S
      In (λ q. Included I z.pool q.0 q.1) (λ q. Included I z.pool q.0 q.1) (λ q. clausify_gci env q.0 q.1)
      (λ q _. included_stable I B env base S z.pool w q.0 q.1) z one
      (ordered_pairs l) (ordered_of_later (λ c d. (c < length z.pool) × (d < length z.pool)) l (both (later_pairs l) (later_each (λ c. c < length z.pool) l u))) z (moved_still B z w) b
    where
      In : ℕ × ℕ → Type 0
      In q = (q.0 < length z.pool) × (q.1 < length z.pool)

      both : (k : List (ℕ × ℕ)) → Each In k → Each (λ q. ((q.0 < length z.pool) × (q.1 < length z.pool)) × ((q.1 < length z.pool) × (q.0 < length z.pool))) k
      both [] v = tt
      both (q ∷ k) v = ((v.0, (v.0.1, v.0.0)), both k v.1)

      one : (q : ℕ × ℕ) → In q → (t : Clausifier) → Moved B z t → base ≤ t.out.next_fresh
          → Post (λ _ t₁. Works I B env base S t (Included I z.pool q.0 q.1) (Included I z.pool q.0 q.1) t₁) (clausify_gci env q.0 q.1 t)
      one q h t g c =
          let same : (J : Interpretation) (x : ℕ) → implies (means J t.pool q.0 x) (means J t.pool q.1 x) ≡ implies (means J z.pool q.0 x) (means J z.pool q.1 x) =
          λ J x. ap₂ (λ f f'. implies (f x) (f' x)) (means_grown J g.grows q.0 h.0) (means_grown J g.grows q.1 h.1) in
          post_map (inclusion_means I B env base S q.0 q.1 t g.wf (le_trans h.0 (grown_length g.grows)) (le_trans h.1 (grown_length g.grows)) c) (λ _ t₁ D.
          record { moved = D.moved; added = added_map I B env base S t₁.pool D.moved.wf (λ k m i x v. same (with_classes I k) x ∙ i x v) (λ k m i x v. sym (same (with_classes I k) x) ∙ i x v) D.added })

  equivalent_means : (l : List ℕ) (z : Clausifier) → Wf B z.pool → Each (λ c. c < length z.pool) l → base ≤ z.out.next_fresh
      → Post (λ _ t. Says z (EquivalentClasses l) t) (for_each (λ q. clausify_gci env q.0 q.1) (ordered_pairs l) z)
  equivalent_means l z w u b = post_map (inclusions_mean l z w u b) (λ _ t D. record {
    moved = D.moved;
    added = added_map I B env base S t.pool D.moved.wf
        (λ k m h. ordered_of_later (λ c d. Included I z.pool c d k) l (halves k (later_pairs l)
        (every_each I.size (λ x q. same k q x ≡ true) (later_pairs l) (λ x v. all_each (λ q. same k q x) (later_pairs l) (elements_all I.size (λ x. all (λ q. same k q x) (later_pairs l)) h x v)))))
        (λ k m h _. all_elements I.size (λ x. all (λ q. same k q x) (later_pairs l)) (λ x v. each_all (λ q. same k q x) (later_pairs l)
        (each_every I.size (λ x q. same k q x ≡ true) (later_pairs l) (wholes k (later_pairs l) (later_of_ordered (λ c d. Included I z.pool c d k) l h)) x v)))
        D.added;
  })
    where
      below : Valuation → ℕ → ℕ → ℕ → Bool
      below k c d x = implies (means (with_classes I k) z.pool c x) (means (with_classes I k) z.pool d x)

      same : Valuation → ℕ × ℕ → ℕ → Bool
      same k q x = same_truth (means (with_classes I k) z.pool q.0 x) (means (with_classes I k) z.pool q.1 x)

      halves : (k : Valuation) (ps : List (ℕ × ℕ)) → Each (λ q. (x : ℕ) → x < I.size → same k q x ≡ true) ps → Each (λ q. Included I z.pool q.0 q.1 k × Included I z.pool q.1 q.0 k) ps
      halves k [] h = tt
      halves k (q ∷ ps) h = (
        (λ x v. and_left (below k q.0 q.1 x) (below k q.1 q.0 x) (h.0 x v), λ x v. and_right (below k q.0 q.1 x) (below k q.1 q.0 x) (h.0 x v)),
        halves k ps h.1,
      )

      wholes : (k : Valuation) (ps : List (ℕ × ℕ)) → Each (λ q. Included I z.pool q.0 q.1 k × Included I z.pool q.1 q.0 k) ps → Each (λ q. (x : ℕ) → x < I.size → same k q x ≡ true) ps
      wholes k [] h = tt
      wholes k (q ∷ ps) h = (λ x v. and_both (h.0.0 x v) (h.0.1 x v), wholes k ps h.1)

  -- ---- every kind
  pub axiom_says : (a : Axiom) (z : Clausifier) → Wf B z.pool → base ≤ z.out.next_fresh → AxiomIn B (length z.pool) a → Post (λ _ t. Says z a t) (clausify_axiom env a z)
  unfolding clausify_axiom disjoint_pair union_member restart_vars
  axiom_says (SubClassOf sub sup) z w b h = post_map (inclusion_means I B env base S sub sup z w h.0 h.1 b) (λ _ t D. record {
    moved = D.moved;
    added = added_map I B env base S t.pool D.moved.wf
        (λ k m i. elements_all I.size (λ x. implies (means (with_classes I k) z.pool sub x) (means (with_classes I k) z.pool sup x)) i)
        (λ k m i _. all_elements I.size (λ x. implies (means (with_classes I k) z.pool sub x) (means (with_classes I k) z.pool sup x)) i)
        D.added;
  })
  axiom_says (EquivalentClasses l) z w b h = equivalent_means l z w h b
  axiom_says (DisjointClasses l) z w b h = each_last (pair_at env (defer env DisjointAntecedent)) (later_pairs l) z (disjoint_means I B env base S z.pool w l h z.out b) (λ _ t A. read z w t A)
  axiom_says (DisjointUnion a l) z w b h =
      each_then (pair_at env (λ s. ok tt s)) (later_pairs l) z _ (union_pairs I B env base S z.pool w l h.1 z.out b) (λ _ s₁ A.
      each_then (member_at env a) l (record { pool = z.pool; out = s₁ }) _ (union_members I B env base S z.pool w a h.0 l h.1 s₁ (omega (arith, A.fresh))) (λ _ s₂ D.
      out_last (record { pool = z.pool; out = s₂ }) (λ pool. restart_vars >> cover env pool a l []) (union_cover I B env base S z.pool w a h.0 l h.1 s₂ (omega (arith, A.fresh, D.fresh))) (λ _ s₃ N.
      read z w s₃ (union_means I B env base S z.pool w a h.0 l z.out s₁ s₂ s₃ b h.1 A D N))))
  axiom_says (ObjectPropertyDomain r c) z w b h = out_last z (domain env r c) (domain_means I B env base S z.pool w r c h.1 z.out b) (λ _ t A. read z w t A)
  axiom_says (ObjectPropertyRange r c) z w b h = out_last z (range env r c) (range_means I B env base S z.pool w r c h.1 z.out b) (λ _ t A. read z w t A)
  axiom_says (SubChain sup parts) z w b h = out_last z (chain_of env sup parts) (chain_means I B env base S z.pool w sup parts z.out b) (λ _ t A. read z w t A)
  axiom_says (TransitiveRole r) z w b h = out_last z (chain env r r r) (transitive_means I B env base S z.pool w r z.out b) (λ _ t A. read z w t A)
  axiom_says (IrreflexiveRole r) z w b h = out_last z (λ pool. push env (RoleAtom (canon env r) 0 0 ∷ []) []) (irreflexive_means I B env base S z.pool w r z.out b) (λ _ t A. read z w t A)
  axiom_says (AsymmetricRole r) z w b h = out_last z (asymmetric env r) (asymmetric_means I B env base S z.pool w r z.out b) (λ _ t A. read z w t A)
  axiom_says (DisjointObjectProperties l) z w b h = each_last (λ q pool. disjoint_roles env q pool (eqb (role_code q.0) (role_code q.1))) (later_pairs l) z (disjoint_roles_mean I B env base S z.pool w l z.out b) (λ _ t A. read z w t A)
  axiom_says (InverseObjectProperties r s) z w b h = nothing (InverseObjectProperties r s) refl z w
  axiom_says (SubObjectPropertyOf r s) z w b h = nothing (SubObjectPropertyOf r s) refl z w
  axiom_says (EquivalentObjectProperties l) z w b h = nothing (EquivalentObjectProperties l) refl z w
  axiom_says (ReflexiveRole r) z w b h = nothing (ReflexiveRole r) refl z w
  axiom_says (ClassAssertion c i) z w b h = nothing (ClassAssertion c i) refl z w

  pub axiom_means : (a : Axiom) (z : Clausifier) → Wf B z.pool → base ≤ z.out.next_fresh → AxiomIn B (length z.pool) a
      → Post (λ _ t. Grown z.pool t.pool × (w : Wf B t.pool) × Added I B env base S t.pool w z.out (λ k. satisfied (with_classes I k) z.pool a ≡ true) (Nothing I B env base S t.pool w) (λ k. Clausified a → satisfied (with_classes I k) z.pool a ≡ true) t.out)
      (clausify_axiom env a z)
  axiom_means a z w b h = post_map (axiom_says a z w b h) (λ _ t D. (D.moved.grows, D.moved.wf, D.added))

-- ---- an axiom with its limits, and all axioms of a run: at bounds that reach up to the classes taken
module _ (I : Interpretation) (B : Bounds) (env : Env) (low : ℕ) (S : Setting I B env low) where
  -- a part of the run, from z to t, between which nothing waits
  pub record Whole (z : Clausifier) (H C : Valuation → Type 0) (t : Clausifier) : Type 0 where
    pub grows : Grown z.pool t.pool
    pub wf : Wf (up_to B t.out.next_fresh) t.pool
    pub none : t.out.limits ≡ []
    pub new : List Clause
    pub grown : t.out.clauses ≡ z.out.clauses ++ new
    pub fresh : z.out.next_fresh ≤ t.out.next_fresh
    pub defers : length z.out.deferrals ≤ length t.out.deferrals
    pub under : Each (ClauseUnder t.out.next_fresh) new
    pub gets : (k : Valuation) → Alone I B env k → H k → (l : Valuation) × Agree z.out.next_fresh k l × Each (Follows (with_classes I l)) new
    pub says : (k : Valuation) → Alone I B env k → Each (Follows (with_classes I k)) new → (env.equal_names ≡ false → Each (Fine low) new) → env.dkey_classes ≡ []
        → length t.out.deferrals ≡ length z.out.deferrals → C k

  -- ---- one axiom
  module _ (a : Axiom) (z : Clausifier) (b : low ≤ z.out.next_fresh) (e : z.out.limits ≡ []) where
    abbrev pub n : ℕ
    n = z.out.next_fresh

    abbrev pub Own : Clausifier → Type 0
    Own t = Says I (up_to B n) env n (setting I B env low S.individuals S.keeps n b) z a t

    abbrev pub Sat : Valuation → Type 0
    Sat k = Satisfied I B env low S z.pool a k

    -- its limits are those that wait
    pub own_limits : (t : Clausifier) (D : Own t) → t.out.limits ≡ D.added.waiting
    own_limits t D = D.added.waits ∙ ap (λ l. l ++ D.added.waiting) e

    fine_up : (l : List Clause) → Each (Fine low) l → Each (Fine n) l
    fine_up l u = each_of_lem (λ c f. each_of_lem (fine_atom_up b) c.head f) l u

    -- without option 4
    alone_whole : (t : Clausifier) → Own t → env.equal_names ≡ false → t.out.limits ≡ [] → Whole z Sat (λ k. Clausified a → Sat k) t
    alone_whole t D off none =
        let A = D.added in
        record {
          grows = D.moved.grows;
          wf = wf_up B A.fresh t.pool D.moved.wf;
          none = none;
          new = A.new;
          grown = A.grown;
          fresh = A.fresh;
          defers = A.defers;
          under = A.under;
          gets = λ k m h. let u = A.gets k (alone_at I B env low S.individuals S.keeps n m) h in (u.0, u.1, u.2);
          says = λ k m f fine keys d. A.says k (alone_at I B env low S.individuals S.keeps n m) f
              (subst (Each (In I B env low S.individuals S.keeps t.pool k)) (sym none ∙ own_limits t D) tt) (λ o. fine_up A.new (fine o)) keys d;
        }

    -- with it, and the queue emptied
    settled_whole : (on : env.equal_names ≡ true) (t₁ : Clausifier) (D : Own t₁) (t : Clausifier) → Settled I B env low S.individuals S.keeps on t₁ D.added.waiting t → Whole z Sat (λ k. Clausified a → Sat k) t
    settled_whole on t₁ D t X =
        let A = D.added in
        let up : (k : Valuation) → Alone I B env k → Alone I (up_to B n) env k = λ k m. alone_at I B env low S.individuals S.keeps n m in
        record {
          grows = grown_trans D.moved.grows X.grows;
          wf = X.wf;
          none = X.empty;
          new = A.new ++ X.new;
          grown = X.grown ∙ ap (λ c. c ++ X.new) A.grown ∙ append_assoc z.out.clauses A.new X.new;
          fresh = omega (arith, A.fresh, X.fresh);
          defers = omega (arith, A.defers, X.defers);
          under = each_append (ClauseUnder t.out.next_fresh) A.new X.new (each_of_lem (clause_under_more X.fresh) A.new A.under) X.under;
          gets = λ k m h.
              let u = A.gets k (up k m) h in
              let v = X.gets u.0 (alone_agree I B env low S b u.1 m) u.3 in (
                v.0,
                agree_trans A.fresh u.1 v.1,
                each_append (Follows (with_classes I v.0)) A.new X.new (follow_agree I v.1 A.new A.under u.2) v.2,
              );
          says = λ k m f fine keys d. A.says k (up k m) (each_left (Follows (with_classes I k)) A.new X.new f)
              (X.says k m (each_right (Follows (with_classes I k)) A.new X.new f) keys (omega (arith, A.defers, X.defers)))
              (λ off. absurd (false≢true (sym off ∙ on))) keys (omega (arith, A.defers, X.defers));
        }

    abbrev pub Means : Unit {0} → Clausifier → Type 0
    Means _ t = Whole z Sat (λ k. Clausified a → Sat k) t

    module _ (w : Wf (up_to B n) z.pool) (h : AxiomIn B (length z.pool) a) where
      pub own_means : Post (λ _ t. Own t) (clausify_axiom env a z)
      own_means = axiom_says I (up_to B n) env n (setting I B env low S.individuals S.keeps n b) a z w (le_refl n) (axiom_up B (le_trans S.classes b) (length z.pool) a h)

      on_means : env.equal_names ≡ true → Post Means (clausify_whole env a z)
      unfolding clausify_whole
      on_means on = post_then own_means (λ _ t₁ D.
          let held = each_both (λ w. w.filler < length t₁.pool) (λ w. w.name < t₁.out.next_fresh) (Held I B env low S.individuals S.keeps t₁) (λ _ h k. (h, k)) D.added.waiting D.added.held D.added.named in
          post_map (settle_means I B env low S.individuals S.keeps on (suc t₁.out.limit) t₁ (wf_up B D.added.fresh t₁.pool D.moved.wf) (omega (arith, D.added.fresh))
          (subst (Each (Held I B env low S.individuals S.keeps t₁)) (sym (own_limits t₁ D)) held))
          (λ _ t X. settled_whole on t₁ D t (subst (λ ws. Settled I B env low S.individuals S.keeps on t₁ ws t) (own_limits t₁ D) X)))

      off_means : env.equal_names ≡ false → Post Means (clausify_whole env a z)
      off_means off = subst (Post Means) (sym (whole_alone env a z (names_none (names_limits a)) e))
          (post_map (post_both own_means ((axiom_leaves env a (names_none (names_limits a))).run z)) (λ _ t X. alone_whole t X.0 off (X.1 ∙ e)))
        where
          names_none : (c : Bool) → (c && env.equal_names) ≡ false
          names_none true = off
          names_none false = refl

      pub whole_means : Post Means (clausify_whole env a z)
      whole_means = by_truth env.equal_names on_means off_means

  -- ---- all axioms, as they are satisfied in the pool p before the first, which names declared classes alone
  module _ (p : Pool) (wp : Wf B p) where
    abbrev Sats : List Axiom → Valuation → Type 0
    Sats l k = Each (λ a. Satisfied I B env low S p a k) l

    abbrev Given : List Axiom → Valuation → Type 0
    Given l k = Each (λ a. Clausified a → Satisfied I B env low S p a k) l

    sats_agree : (l : List Axiom) → Each (AxiomIn B (length p)) l → Stable low (Sats l)
    sats_agree l u = each_stable low (AxiomIn B (length p)) (λ a. Satisfied I B env low S p a) (λ x h k i g e. sym (satisfied_agree I B env low S (le_refl low) g p wp (length p) x h) ∙ e) l u

    wholes_then : {z t u : Clausifier} (line : ℕ) (a : Axiom) (l : List Axiom) → low ≤ z.out.next_fresh → Grown p z.pool → AxiomIn B (length p) a → Each (AxiomIn B (length p)) l
        → Whole (clausifier_at line z) (Satisfied I B env low S z.pool a) (λ k. Clausified a → Satisfied I B env low S z.pool a k) t → Whole t (Sats l) (Given l) u → Whole z (Sats (a ∷ l)) (Given (a ∷ l)) u
    wholes_then {z} {t} {u} line a l b g ha hl A D =
        let same : (k : Valuation) → satisfied (with_classes I k) z.pool a ≡ satisfied (with_classes I k) p a = λ k. satisfied_grown (with_classes I k) B g a ha in
        record {
          grows = grown_trans A.grows D.grows;
          wf = D.wf;
          none = D.none;
          new = A.new ++ D.new;
          grown = D.grown ∙ ap (λ c. c ++ D.new) A.grown ∙ append_assoc z.out.clauses A.new D.new;
          fresh = omega (arith, A.fresh, D.fresh);
          defers = omega (arith, A.defers, D.defers);
          under = each_append (ClauseUnder u.out.next_fresh) A.new D.new (each_of_lem (clause_under_more D.fresh) A.new A.under) D.under;
          gets = λ k m h.
              let v = A.gets k m (same k ∙ h.0) in
              let w = D.gets v.0 (alone_agree I B env low S b v.1 m) (sats_agree l hl k v.0 (agree_below b v.1) h.1) in (
                w.0,
                agree_trans A.fresh v.1 w.1,
                each_append (Follows (with_classes I w.0)) A.new D.new (follow_agree I w.1 A.new A.under v.2) w.2,
              );
          says = λ k m f fine keys d. (
            λ c. sym (same k) ∙ A.says k m (each_left (Follows (with_classes I k)) A.new D.new f) (λ o. each_left (Fine low) A.new D.new (fine o)) keys (omega (arith, A.defers, D.defers)) c,
            D.says k m (each_right (Follows (with_classes I k)) A.new D.new f) (λ o. each_right (Fine low) A.new D.new (fine o)) keys (omega (arith, A.defers, D.defers)),
          );
        }

    pub axioms_mean : (line : ℕ) (l : List Axiom) (z : Clausifier) → Grown p z.pool → Wf (up_to B z.out.next_fresh) z.pool → low ≤ z.out.next_fresh → z.out.limits ≡ [] → Each (AxiomIn B (length p)) l
        → LinedPost (λ _ t. Whole z (Sats l) (Given l) t) (clausify_axioms env line l z)
    unfolding clausify_axioms
    axioms_mean line [] z g w b e h = finish (record {
      grows = grown_refl z.pool;
      wf = w;
      none = e;
      new = [];
      grown = sym (append-nil z.out.clauses);
      fresh = le_refl z.out.next_fresh;
      defers = le_refl (length z.out.deferrals);
      under = tt;
      gets = λ k _ _. (k, agree_refl z.out.next_fresh k, tt);
      says = λ _ _ _ _ _ _. tt;
    })
    axioms_mean line (a ∷ l) z g w b e h =
        lined_then_lem (lined_post line (whole_means a (clausifier_at line z) b e w (axiom_more B (length p) (length z.pool) a (grown_length g) h.0))) (λ _ t A.
        lined_map (axioms_mean (line + 1) l t (grown_trans g A.grows) A.wf (omega (arith, A.fresh)) A.none h.1) (λ _ u D. wholes_then line a l b g h.0 h.1 A D))
