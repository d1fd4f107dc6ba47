-- Axioms over roles: domain, range, chains, transitive, irreflexive, asymmetric and disjoint roles. Their clauses say them, both
-- halves; a chain of other than two parts is deferred. Assumes nothing.
use Rattle.std.specs.Prelude.{◌≡◌, refl, Bool, not, ◌&&◌, ℕ, zero, suc, ◌≤◌, ◌<◌, length, eqb}
use Rattle.std.proofs.Common.{sym, ◌∙◌, subst, le_refl}
use Rattle.std.proofs.Math.Bool.{true, false}
use mathlib.Core.List.{List, [], ◌∷◌}
use native.Mathlib.Omega.{arith}
use borrow.Author.Tests.{eq-eqb, eqb-true}
use Rattle.ir.specs.Roles.{role_code}
use Rattle.ir.specs.declared.role.Role.{Role}
use Rattle.ir.specs.declared.atom.Atom.TheVariants.{Role as RoleAtom}
use Rattle.ir.specs.declared.deferral.Deferral.TheVariants.{RoleChainLenNe2}
use Rattle.rules.specs.Base.{all, for_each}
use Rattle.rules.specs.Concept.{Axiom}
use Rattle.rules.specs.Concept.{ObjectPropertyDomain, ObjectPropertyRange, SubChain, TransitiveRole, IrreflexiveRole, AsymmetricRole, DisjointObjectProperties}
use Rattle.rules.specs.Pool.{Pool}
use Rattle.rules.specs.State.{Env, Out, out, canon, restart_vars, fresh_var, push}
use Rattle.rules.specs.Axioms.{later_pairs, domain, range, chain, chain_of, asymmetric, disjoint_roles}
use Rattle.rules.specs.Post.{Post, give, post_map}
use Rattle.rules.specs.Invariants.{Bounds, Wf}
use Rattle.rules.specs.EachLaws.{each_any}
use Rattle.rules.specs.Semantics.{Interpretation, with_classes, elements_below, related, means, implies, chain_related, roles_clash, satisfied}
use Rattle.meaning.specs.Truth.{and_left, and_right, and_both, or_none, not_intro, not_elim, implies_elim, implies_intro, all_elements, elements_all, any_at, any_find, all_each, each_all}
use Rattle.meaning.specs.Choices.{Choice}
use Rattle.meaning.specs.Valuations.{Valuation}
use Rattle.meaning.specs.Adds.{Setting, Nothing}
use Rattle.meaning.proofs.Antecedents.{Quiet}
use Rattle.meaning.proofs.Added.{Added, adds_added, added_none, added_map, quiet_added, push_added, defer_added, each_does}
use Rattle.meaning.proofs.Heads.{emit_means}
use Rattle.meaning.specs.Pairs.{every_each, each_every}

-- ---- choices of two and of three elements
abbrev two : ℕ → ℕ → ℕ → ℕ
two x y zero = x
two x y (suc v) = y

abbrev three : ℕ → ℕ → ℕ → ℕ → ℕ
three x y z zero = x
three x y z (suc v) = two y z v

two_choice : (I : Interpretation) (x y : ℕ) → x < I.size → y < I.size → Choice I (two x y)
two_choice I x y h k zero = h
two_choice I x y h k (suc v) = k

three_choice : (I : Interpretation) (x y z : ℕ) → x < I.size → y < I.size → z < I.size → Choice I (three x y z)
three_choice I x y z h k l zero = h
three_choice I x y z h k l (suc v) = two_choice I y z k l v

-- ---- every pair of elements
every_pair_lem : (n : ℕ) (f : ℕ → ℕ → Bool) → ((x y : ℕ) → x < n → y < n → f x y ≡ true) → all (λ x. all (λ y. f x y) (elements_below n)) (elements_below n) ≡ true
every_pair_lem n f h = all_elements n (λ x. all (λ y. f x y) (elements_below n)) (λ x u. all_elements n (f x) (λ y v. h x y u v))

pair_every : (n : ℕ) (f : ℕ → ℕ → Bool) → all (λ x. all (λ y. f x y) (elements_below n)) (elements_below n) ≡ true → (x y : ℕ) → x < n → y < n → f x y ≡ true
pair_every n f h x y u v = elements_all n (f x) (elements_all n (λ x. all (λ y. f x y) (elements_below n)) h x u) y v

module _ (I : Interpretation) (B : Bounds) (env : Env) (base : ℕ) (S : Setting I B env base) (p : Pool) (w : Wf B p) where
  -- a rule's clauses say H
  abbrev Says : (Valuation → Type 0) → Out → Out → Type 0
  Says H s t = Added I B env base S p w s H (Nothing I B env base S p w) H t

  abbrev pub Satisfied : Pool → Axiom → Valuation → Type 0
  Satisfied p a k = satisfied (with_classes I k) p a ≡ true

  -- the state with n for the next variable
  abbrev from : ℕ → Out → Out
  from n s = out s.visits s.limit n s.next_fresh s.clauses s.deferrals s.line s.limits

  from_quiet : (n : ℕ) (s : Out) → Quiet s (from n s)
  from_quiet n s = record { clauses = refl; deferrals = refl; fresh = refl; limits = refl; line = refl }

  -- a role's edge, and the map's
  edge_from_lem : (r : Role) (x y : ℕ) → x < I.size → y < I.size → related I (canon env r) x y ≡ true → related I r x y ≡ true
  edge_from_lem r x y u v e = sym (S.keeps r x y u v) ∙ e

  edge_to_lem : (r : Role) (x y : ℕ) → x < I.size → y < I.size → related I r x y ≡ true → related I (canon env r) x y ≡ true
  edge_to_lem r x y u v e = S.keeps r x y u v ∙ e

  -- ---- domain and range
  module _ (r : Role) (c : ℕ) (h : c < length p) (s : Out) (b : base ≤ s.next_fresh) where
    pub domain_means : Post (λ _ t. Says (Satisfied p (ObjectPropertyDomain r c)) s t) (domain env r c p s)
    unfolding domain restart_vars fresh_var
    domain_means = post_map
        (emit_means I B env base S p w (suc c) (RoleAtom (canon env r) 0 1 ∷ []) c 0 (from 2 s) h (le_refl (suc c)) (record { above = b; root = omega arith; var = omega arith; under = (tt, tt); vars = ((omega arith, omega arith), tt) }))
        (λ _ t A. quiet_added I B env base S p w (from_quiet 2 s) (added_map I B env base S p w
        (λ k m i f g e. implies_elim (related I r (f 0) (f 1)) (means (with_classes I k) p c (f 0))
        (pair_every I.size (λ x y. implies (related I r x y) (means (with_classes I k) p c x)) i (f 0) (f 1) (g 0) (g 1))
        (edge_from_lem r (f 0) (f 1) (g 0) (g 1) (and_left (related I (canon env r) (f 0) (f 1)) true e)))
        (λ k m i. every_pair_lem I.size (λ x y. implies (related I r x y) (means (with_classes I k) p c x)) (λ x y u v. implies_intro (related I r x y) (means (with_classes I k) p c x) (λ e.
        i (two x y) (two_choice I x y u v) (and_both (edge_to_lem r x y u v e) refl))))
        (adds_added I B env base S p w A)))

    pub range_means : Post (λ _ t. Says (Satisfied p (ObjectPropertyRange r c)) s t) (range env r c p s)
    unfolding range restart_vars fresh_var
    range_means = post_map
        (emit_means I B env base S p w (suc c) (RoleAtom (canon env r) 0 1 ∷ []) c 1 (from 2 s) h (le_refl (suc c)) (record { above = b; root = omega arith; var = omega arith; under = (tt, tt); vars = ((omega arith, omega arith), tt) }))
        (λ _ t A. quiet_added I B env base S p w (from_quiet 2 s) (added_map I B env base S p w
        (λ k m i f g e. implies_elim (related I r (f 0) (f 1)) (means (with_classes I k) p c (f 1))
        (pair_every I.size (λ x y. implies (related I r x y) (means (with_classes I k) p c y)) i (f 0) (f 1) (g 0) (g 1))
        (edge_from_lem r (f 0) (f 1) (g 0) (g 1) (and_left (related I (canon env r) (f 0) (f 1)) true e)))
        (λ k m i. every_pair_lem I.size (λ x y. implies (related I r x y) (means (with_classes I k) p c y)) (λ x y u v. implies_intro (related I r x y) (means (with_classes I k) p c y) (λ e.
        i (two x y) (two_choice I x y u v) (and_both (edge_to_lem r x y u v e) refl))))
        (adds_added I B env base S p w A)))

  -- ---- chains of two
  abbrev Composes : Role → Role → Role → Type 0
  Composes r1 r2 r3 = (x y z : ℕ) → x < I.size → y < I.size → z < I.size → related I r1 x y ≡ true → related I r2 y z ≡ true → related I r3 x z ≡ true

  chain_added : (r1 r2 r3 : Role) (s : Out) → base ≤ s.next_fresh → Post (λ _ t. Says (λ k. Composes r1 r2 r3) s t) (chain env r1 r2 r3 p s)
  unfolding chain restart_vars fresh_var
  chain_added r1 r2 r3 s b = post_map
      (push_added I B env base S p w (RoleAtom (canon env r1) 0 1 ∷ RoleAtom (canon env r2) 1 2 ∷ []) (RoleAtom (canon env r3) 0 2 ∷ []) (from 3 s) b (tt, (tt, tt)) (tt, tt))
      (λ _ t A. quiet_added I B env base S p w (from_quiet 3 s) (added_map I B env base S p w
      (λ k m i. record {
        follows = λ f g e.
            let e₂ = and_right (related I (canon env r1) (f 0) (f 1)) (related I (canon env r2) (f 1) (f 2) && true) e in
            or_none (related I (canon env r3) (f 0) (f 2)) ∙ edge_to_lem r3 (f 0) (f 2) (g 0) (g 2)
            (i (f 0) (f 1) (f 2) (g 0) (g 1) (g 2) (edge_from_lem r1 (f 0) (f 1) (g 0) (g 1) (and_left (related I (canon env r1) (f 0) (f 1)) (related I (canon env r2) (f 1) (f 2) && true) e))
            (edge_from_lem r2 (f 1) (f 2) (g 1) (g 2) (and_left (related I (canon env r2) (f 1) (f 2)) true e₂)));
      })
      (λ k m i x y z u v w d e. edge_from_lem r3 x z u w (sym (or_none (related I (canon env r3) x z))
      ∙ i.follows (three x y z) (three_choice I x y z u v w) (and_both (edge_to_lem r1 x y u v d) (and_both (edge_to_lem r2 y z v w e) refl)))) A))

  chain_to : (r1 r2 r3 : Role) (k : Valuation) → Satisfied p (SubChain r3 (r1 ∷ r2 ∷ [])) k → Composes r1 r2 r3
  unfolding chain_related
  chain_to r1 r2 r3 k h x y z u v w d e = implies_elim (chain_related (with_classes I k) (r1 ∷ r2 ∷ []) x z) (related I r3 x z)
      (pair_every I.size (λ x y. implies (chain_related (with_classes I k) (r1 ∷ r2 ∷ []) x y) (related I r3 x y)) h x z u w)
      (any_at I.size (λ a. related I r1 x a && chain_related (with_classes I k) (r2 ∷ []) a z) y v (and_both d
      (any_at I.size (λ a. related I r2 y a && chain_related (with_classes I k) [] a z) z w (and_both e (eq-eqb z z refl)))))

  chain_from : (r1 r2 r3 : Role) (k : Valuation) → Composes r1 r2 r3 → Satisfied p (SubChain r3 (r1 ∷ r2 ∷ [])) k
  unfolding chain_related
  chain_from r1 r2 r3 k h = every_pair_lem I.size (λ x y. implies (chain_related (with_classes I k) (r1 ∷ r2 ∷ []) x y) (related I r3 x y)) (λ x z u w.
      implies_intro (chain_related (with_classes I k) (r1 ∷ r2 ∷ []) x z) (related I r3 x z) (λ e.
      let y = any_find I.size (λ a. related I r1 x a && chain_related (with_classes I k) (r2 ∷ []) a z) e in
      let e₂ = and_right (related I r1 x y.0) (chain_related (with_classes I k) (r2 ∷ []) y.0 z) y.2 in
      let t = any_find I.size (λ a. related I r2 y.0 a && chain_related (with_classes I k) [] a z) e₂ in
      let q : t.0 ≡ z = eqb-true t.0 z (and_right (related I r2 y.0 t.0) (eqb t.0 z) t.2) in
      h x y.0 z u y.1 w (and_left (related I r1 x y.0) (chain_related (with_classes I k) (r2 ∷ []) y.0 z) y.2)
      (subst (λ a. related I r2 y.0 a ≡ true) q (and_left (related I r2 y.0 t.0) (eqb t.0 z) t.2))))

  pub chain_means : (sup : Role) (parts : List Role) (s : Out) → base ≤ s.next_fresh → Post (λ _ t. Says (Satisfied p (SubChain sup parts)) s t) (chain_of env sup parts p s)
  chain_means sup [] s b = defer_added I B env base S p w RoleChainLenNe2 s
  chain_means sup (r ∷ []) s b = defer_added I B env base S p w RoleChainLenNe2 s
  chain_means sup (r ∷ r' ∷ []) s b = post_map (chain_added r r' sup s b) (λ _ t A. added_map I B env base S p w (λ k m. chain_to r r' sup k) (λ k m. chain_from r r' sup k) A)
  chain_means sup (r ∷ r' ∷ r'' ∷ l) s b = defer_added I B env base S p w RoleChainLenNe2 s

  pub transitive_means : (r : Role) (s : Out) → base ≤ s.next_fresh → Post (λ _ t. Says (Satisfied p (TransitiveRole r)) s t) (chain env r r r p s)
  transitive_means r s b = post_map (chain_added r r r s b) (λ _ t A. added_map I B env base S p w
      (λ k m h x y z u v w d e. implies_elim (related I r x y && related I r y z) (related I r x z)
      (pair_every I.size (λ y z. implies (related I r x y && related I r y z) (related I r x z)) (elements_all I.size (λ x. test x) h x u) y z v w) (and_both d e))
      (λ k m h. all_elements I.size (λ x. test x) (λ x u. every_pair_lem I.size (λ y z. implies (related I r x y && related I r y z) (related I r x z)) (λ y z v w.
      implies_intro (related I r x y && related I r y z) (related I r x z) (λ e. h x y z u v w (and_left (related I r x y) (related I r y z) e) (and_right (related I r x y) (related I r y z) e)))))
      A)
    where
      test : ℕ → Bool
      test x = all (λ y. all (λ z. implies (related I r x y && related I r y z) (related I r x z)) (elements_below I.size)) (elements_below I.size)

  -- ---- no such edge
  pub irreflexive_means : (r : Role) (s : Out) → base ≤ s.next_fresh → Post (λ _ t. Says (Satisfied p (IrreflexiveRole r)) s t) (push env (RoleAtom (canon env r) 0 0 ∷ []) [] s)
  irreflexive_means r s b = post_map (push_added I B env base S p w (RoleAtom (canon env r) 0 0 ∷ []) [] s b (tt, tt) tt) (λ _ t A. added_map I B env base S p w
      (λ k m h. record {
        follows = λ f g e. absurd (not_elim (related I r (f 0) (f 0)) (elements_all I.size (λ x. not (related I r x x)) h (f 0) (g 0))
            (edge_from_lem r (f 0) (f 0) (g 0) (g 0) (and_left (related I (canon env r) (f 0) (f 0)) true e)));
      })
      (λ k m h. all_elements I.size (λ x. not (related I r x x)) (λ x u. not_intro (related I r x x) (λ e. h.follows (λ _. x) (λ _. u) (and_both (edge_to_lem r x x u u e) refl))))
      A)

  pub asymmetric_means : (r : Role) (s : Out) → base ≤ s.next_fresh → Post (λ _ t. Says (Satisfied p (AsymmetricRole r)) s t) (asymmetric env r p s)
  unfolding asymmetric restart_vars fresh_var
  asymmetric_means r s b = post_map (push_added I B env base S p w (RoleAtom (canon env r) 0 1 ∷ RoleAtom (canon env r) 1 0 ∷ []) [] (from 2 s) b (tt, (tt, tt)) tt)
      (λ _ t A. quiet_added I B env base S p w (from_quiet 2 s) (added_map I B env base S p w
      (λ k m h. record {
        follows = λ f g e. absurd (not_elim (related I r (f 1) (f 0))
            (implies_elim (related I r (f 0) (f 1)) (not (related I r (f 1) (f 0))) (pair_every I.size (λ x y. implies (related I r x y) (not (related I r y x))) h (f 0) (f 1) (g 0) (g 1))
            (edge_from_lem r (f 0) (f 1) (g 0) (g 1) (and_left (related I (canon env r) (f 0) (f 1)) (related I (canon env r) (f 1) (f 0) && true) e)))
            (edge_from_lem r (f 1) (f 0) (g 1) (g 0) (and_left (related I (canon env r) (f 1) (f 0)) true (and_right (related I (canon env r) (f 0) (f 1)) (related I (canon env r) (f 1) (f 0) && true) e))));
      })
      (λ k m h. every_pair_lem I.size (λ x y. implies (related I r x y) (not (related I r y x))) (λ x y u v. implies_intro (related I r x y) (not (related I r y x)) (λ d. not_intro (related I r y x) (λ e.
      h.follows (two x y) (two_choice I x y u v) (and_both (edge_to_lem r x y u v d) (and_both (edge_to_lem r y x v u e) refl))))))
      A))

  -- ---- disjoint roles: a pair of equal codes is skipped, and says nothing
  abbrev NoClash : Role × Role → Valuation → Type 0
  NoClash q k = (x : ℕ) → x < I.size → (y : ℕ) → y < I.size → not (roles_clash I q x y) ≡ true

  no_clash : (q : Role × Role) (s : Out) → base ≤ s.next_fresh → (d : Bool) → eqb (role_code q.0) (role_code q.1) ≡ d
      → Post (λ _ t. Says (NoClash q) s t) (disjoint_roles env q p d s)
  unfolding restart_vars fresh_var
  no_clash q s b true c = give (added_none I B env base S p w s (λ k m x u y v. rw c))
  no_clash q s b false c = post_map (push_added I B env base S p w (RoleAtom (canon env q.0) 0 1 ∷ RoleAtom (canon env q.1) 0 1 ∷ []) [] (from 2 s) b (tt, (tt, tt)) tt)
      (λ _ t A. quiet_added I B env base S p w (from_quiet 2 s) (added_map I B env base S p w
      (λ k m h. record {
        follows = λ f g e. absurd (not_elim (related I q.0 (f 0) (f 1) && related I q.1 (f 0) (f 1)) (rw c at (h (f 0) (g 0) (f 1) (g 1)))
            (and_both (edge_from_lem q.0 (f 0) (f 1) (g 0) (g 1) (and_left (related I (canon env q.0) (f 0) (f 1)) (related I (canon env q.1) (f 0) (f 1) && true) e))
            (edge_from_lem q.1 (f 0) (f 1) (g 0) (g 1) (and_left (related I (canon env q.1) (f 0) (f 1)) true (and_right (related I (canon env q.0) (f 0) (f 1)) (related I (canon env q.1) (f 0) (f 1) && true) e)))));
      })
      (λ k m h x u y v. rw c (not_intro (related I q.0 x y && related I q.1 x y) (λ e.
      h.follows (two x y) (two_choice I x y u v)
      (and_both (edge_to_lem q.0 x y u v (and_left (related I q.0 x y) (related I q.1 x y) e)) (and_both (edge_to_lem q.1 x y u v (and_right (related I q.0 x y) (related I q.1 x y) e)) refl)))))
      A))

  pub disjoint_roles_mean : (l : List Role) (s : Out) → base ≤ s.next_fresh
      → Post (λ _ t. Says (Satisfied p (DisjointObjectProperties l)) s t) (for_each (λ q. disjoint_roles env q p (eqb (role_code q.0) (role_code q.1))) (later_pairs l) s)
  disjoint_roles_mean l s b =
      post_map (each_does I B env base S p w (λ t. t) (λ s t. Unit {0}) s (λ t _. tt) (λ s t u g h. tt)
      (λ q. Unit {0}) NoClash NoClash (λ q. disjoint_roles env q p (eqb (role_code q.0) (role_code q.1))) (λ q _ k i a h. h)
      (λ q _ t _ c. post_map (no_clash q t c (eqb (role_code q.0) (role_code q.1)) refl) (λ _ u A. record { moved = tt; added = A }))
      (later_pairs l) (each_any (λ q. Unit {0}) (λ q. tt) (later_pairs l)) s tt b) (λ _ t A.
      added_map I B env base S p w
      (λ k m h. every_each I.size (λ x q. (y : ℕ) → y < I.size → not (roles_clash I q x y) ≡ true) (later_pairs l) (λ x u.
      every_each I.size (λ y q. not (roles_clash I q x y) ≡ true) (later_pairs l) (λ y v.
      all_each (λ q. not (roles_clash I q x y)) (later_pairs l) (pair_every I.size (λ x y. all (λ q. not (roles_clash I q x y)) (later_pairs l)) h x y u v))))
      (λ k m h. every_pair_lem I.size (λ x y. all (λ q. not (roles_clash I q x y)) (later_pairs l)) (λ x y u v. each_all (λ q. not (roles_clash I q x y)) (later_pairs l)
      (each_every I.size (λ y q. not (roles_clash I q x y) ≡ true) (later_pairs l)
      (each_every I.size (λ x q. (y : ℕ) → y < I.size → not (roles_clash I q x y) ≡ true) (later_pairs l) h x u) y v)))
      A.added)
