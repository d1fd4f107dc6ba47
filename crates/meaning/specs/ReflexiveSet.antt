-- Every id in the set of reflexive roles is reflexive, in an interpretation that satisfies the axioms. It does not rest on the
-- number of rounds: every round keeps it. Assumes nothing.
use Rattle.std.specs.Prelude.{◌≡◌, refl, Bool, ◌||◌, length, eqb}
use Rattle.std.proofs.Math.Path.{sym}
use Rattle.std.proofs.Common.{◌∙◌, eqb-true}
use Rattle.std.proofs.Math.Bool.{true, false}
use Rattle.std.proofs.lemmas.Bool.{false≢true}
use mathlib.Core.List.{List, [], ◌∷◌, map}
use Prim.Native.Nat.{ℕ, zero, suc, ◌<◌}
use Rattle.ir.specs.Pick.{pick}
use Rattle.ir.specs.Roles.{role_id}
use Rattle.ir.specs.declared.role.Role.{Role}
use Rattle.ir.specs.declared.role.Role.TheVariants.{Named, Inverse}
use Rattle.rules.specs.Base.{all, contains}
use Rattle.rules.specs.Concept.{Axiom}
use Rattle.rules.specs.Concept.{SubClassOf, EquivalentClasses, DisjointClasses, DisjointUnion, ObjectPropertyDomain, ObjectPropertyRange, SubChain, TransitiveRole, IrreflexiveRole, AsymmetricRole, DisjointObjectProperties, InverseObjectProperties, SubObjectPropertyOf, EquivalentObjectProperties, ReflexiveRole, ClassAssertion}
use Rattle.rules.specs.Pool.{Pool}
use Rattle.rules.specs.State.{Env, canon}
use Rattle.rules.specs.Inverse.{inverse_canon_of}
use Rattle.rules.specs.Axioms.{paired, later_pairs}
use Rattle.rules.specs.Reflexive.{inserted, canon_id, declared_reflexive, reflexive_from, edge_to, edges_from, edges_among, role_edges, all_edges, round, settled, closed, reflexive_role_ids}
use Rattle.rules.specs.Invariants.{Each}
use Rattle.rules.specs.Semantics.{Interpretation, related, implies, same_truth, satisfied}
use Rattle.rules.specs.Statements.{is_inverse_axiom}
use Rattle.rules.specs.EachLaws.{each_append}
use Rattle.meaning.specs.Truth.{and_left, and_right, implies_elim, same_truth_lem, elements_all, all_each, all_some}
use Rattle.meaning.specs.InverseMap.{SamePairs, every_pair_lem, each_pick, env_keeps}

-- what holds of each holds of one that is contained
pub each_contains : (P : ℕ → Type 0) (l : List ℕ) (n : ℕ) → Each P l → contains l n ≡ true → P n
each_contains P [] n u h = absurd (false≢true h)
each_contains P (a ∷ l) n u h = go (eqb n a) refl (each_contains P l n u.1) h
  where
    go : (b : Bool) → eqb n a ≡ b → (contains l n ≡ true → P n) → b || contains l n ≡ true → P n
    go true e r k = rw (eqb-true n a e) u.0
    go false e r k = r k

module _ (I : Interpretation) where
  -- every element is related to itself
  abbrev pub Reflexive : ℕ → Type 0
  Reflexive i = (x : ℕ) → x < I.size → I.role i x x ≡ true

  pub self_pair : (r : Role) (x : ℕ) → I.role (role_id r) x x ≡ related I r x x
  self_pair (Named i) x = refl
  self_pair (Inverse i) x = refl

  inserted_reflexive : (set : List ℕ) (n : ℕ) → Each Reflexive set → Reflexive n → Each Reflexive (inserted set n)
  inserted_reflexive set n u h = each_pick Reflexive (contains set n) set (n ∷ set) u (h, u)

  -- ---- rounds over edges that keep it
  abbrev Edge : ℕ × ℕ → Type 0
  Edge e = Reflexive e.0 → Reflexive e.1

  round_reflexive : (edges : List (ℕ × ℕ)) (set : List ℕ) → Each Edge edges → Each Reflexive set → Each Reflexive (round edges set)
  unfolding round
  round_reflexive [] set k u = u
  round_reflexive (e ∷ l) set k u = round_reflexive l (pick (contains set e.0) (inserted set e.1) set) k.1 (go (contains set e.0) refl)
    where
      go : (b : Bool) → contains set e.0 ≡ b → Each Reflexive (pick b (inserted set e.1) set)
      go true h = inserted_reflexive set e.1 u (k.0 (each_contains Reflexive set e.0 u h))
      go false h = u

  closed_reflexive : (f : ℕ) (edges : List (ℕ × ℕ)) (set : List ℕ) → Each Edge edges → Each Reflexive set → Each Reflexive (closed f edges set)
  unfolding closed
  closed_reflexive zero edges set k u = u
  closed_reflexive (suc f) edges set k u =
      go (eqb (length set) (length (round edges set))) (closed_reflexive f edges (round edges set) k (round_reflexive edges set k u))
    where
      go : (b : Bool) → Each Reflexive (closed f edges (round edges set)) → Each Reflexive (settled (λ z. closed f edges z) set (round edges set) b)
      go true v = u
      go false v = v

  -- ---- the axioms, by mapped ids
  module _ (env : Env) (keeps : (r : Role) → SamePairs I (canon env r) r) (p : Pool) where
    mapped_self : (r : Role) (x : ℕ) → x < I.size → I.role (canon_id env r) x x ≡ related I r x x
    mapped_self r x h = self_pair (canon env r) x ∙ keeps r x x h h

    declared_reflexive_lem : (set : List ℕ) (a : Axiom) → Each Reflexive set → satisfied I p a ≡ true → Each Reflexive (declared_reflexive env set a)
    declared_reflexive_lem set (SubClassOf _ _) u h = u
    declared_reflexive_lem set (EquivalentClasses _) u h = u
    declared_reflexive_lem set (DisjointClasses _) u h = u
    declared_reflexive_lem set (DisjointUnion _ _) u h = u
    declared_reflexive_lem set (ObjectPropertyDomain _ _) u h = u
    declared_reflexive_lem set (ObjectPropertyRange _ _) u h = u
    declared_reflexive_lem set (SubChain _ _) u h = u
    declared_reflexive_lem set (TransitiveRole _) u h = u
    declared_reflexive_lem set (IrreflexiveRole _) u h = u
    declared_reflexive_lem set (AsymmetricRole _) u h = u
    declared_reflexive_lem set (DisjointObjectProperties _) u h = u
    declared_reflexive_lem set (InverseObjectProperties _ _) u h = u
    declared_reflexive_lem set (SubObjectPropertyOf _ _) u h = u
    declared_reflexive_lem set (EquivalentObjectProperties _) u h = u
    declared_reflexive_lem set (ReflexiveRole r) u h =
        inserted_reflexive set (canon_id env r) u (λ x l. mapped_self r x l ∙ elements_all I.size (λ x. related I r x x) h x l)
    declared_reflexive_lem set (ClassAssertion _ _) u h = u

    from_reflexive : (set : List ℕ) (axioms : List Axiom) → Each Reflexive set → Each (λ a. satisfied I p a ≡ true) axioms → Each Reflexive (reflexive_from env set axioms)
    unfolding reflexive_from
    from_reflexive set [] u h = u
    from_reflexive set (a ∷ l) u h = from_reflexive (declared_reflexive env set a) l (declared_reflexive_lem set a u h.0) h.1

    -- ids whose self-pairs are those of v
    abbrev Alike : (ℕ → Bool) → ℕ → Type 0
    Alike v i = (x : ℕ) → x < I.size → I.role i x x ≡ v x

    edges_from_lem : (v : ℕ → Bool) (a : ℕ) (l : List ℕ) → Alike v a → Each (Alike v) l → Each Edge (edges_from env a l)
    unfolding edges_from
    edges_from_lem v a [] h u = tt
    edges_from_lem v a (b ∷ l) h u = go (eqb a b) (edges_from_lem v a l h u.1)
      where
        go : (t : Bool) → Each Edge (edges_from env a l) → Each Edge (edge_to env a b (edges_from env a l) t)
        go true r = r
        go false r = ((λ e x k. u.0 x k ∙ sym (h x k) ∙ e x k), r)

    edges_among_lem : (v : ℕ → Bool) (k l : List ℕ) → Each (Alike v) k → Each (Alike v) l → Each Edge (edges_among env k l)
    unfolding edges_among
    edges_among_lem v [] l t u = tt
    edges_among_lem v (a ∷ k) l t u = each_append Edge (edges_from env a l) (edges_among env k l) (edges_from_lem v a l t.0 u) (edges_among_lem v k l t.1 u)

    -- the roles after r in an equivalence
    same_self : ℕ → Role × Role → Bool
    same_self x q = same_truth (related I q.0 x x) (related I q.1 x x)

    alike_after : (r : Role) (l : List Role) (rest : List (Role × Role)) → ((x : ℕ) → x < I.size → all (same_self x) (paired r l rest) ≡ true)
        → Each (Alike (λ x. related I r x x)) (map (canon_id env) l)
    unfolding paired same_self
    alike_after r [] rest h = tt
    alike_after r (s ∷ l) rest h = (
      (λ x k. mapped_self s x k ∙ sym (same_truth_lem (related I r x x) (related I s x x) (and_left _ (all (same_self x) (paired r l rest)) (h x k)))),
      alike_after r l rest (λ x k. and_right (same_self x (r, s)) (all (same_self x) (paired r l rest)) (h x k)),
    )

    equivalent_edges : (l : List Role) → satisfied I p (EquivalentObjectProperties l) ≡ true → Each Edge (edges_among env (map (canon_id env) l) (map (canon_id env) l))
    unfolding edges_among later_pairs same_self
    equivalent_edges [] h = tt
    equivalent_edges (r ∷ l) h =
        let u : Each (Alike (λ x. related I r x x)) (map (canon_id env) (r ∷ l)) =
        (mapped_self r, alike_after r l (later_pairs l) (λ x k. every_pair_lem I (λ x y. all (λ q. same_truth (related I q.0 x y) (related I q.1 x y)) (later_pairs (r ∷ l))) h x x k k)) in
        edges_among_lem (λ x. related I r x x) (map (canon_id env) (r ∷ l)) (map (canon_id env) (r ∷ l)) u u

    axiom_edges_lem : (a : Axiom) → satisfied I p a ≡ true → Each Edge (role_edges env a)
    axiom_edges_lem (SubClassOf _ _) h = tt
    axiom_edges_lem (EquivalentClasses _) h = tt
    axiom_edges_lem (DisjointClasses _) h = tt
    axiom_edges_lem (DisjointUnion _ _) h = tt
    axiom_edges_lem (ObjectPropertyDomain _ _) h = tt
    axiom_edges_lem (ObjectPropertyRange _ _) h = tt
    axiom_edges_lem (SubChain _ _) h = tt
    axiom_edges_lem (TransitiveRole _) h = tt
    axiom_edges_lem (IrreflexiveRole _) h = tt
    axiom_edges_lem (AsymmetricRole _) h = tt
    axiom_edges_lem (DisjointObjectProperties _) h = tt
    axiom_edges_lem (InverseObjectProperties _ _) h = tt
    axiom_edges_lem (SubObjectPropertyOf r s) h = (
      (λ e x k. mapped_self s x k
          ∙ implies_elim (related I r x x) (related I s x x) (every_pair_lem I (λ x y. implies (related I r x y) (related I s x y)) h x x k k) (sym (mapped_self r x k) ∙ e x k)),
      tt,
    )
    axiom_edges_lem (EquivalentObjectProperties l) h = equivalent_edges l h
    axiom_edges_lem (ReflexiveRole _) h = tt
    axiom_edges_lem (ClassAssertion _ _) h = tt

    all_edges_lem : (axioms : List Axiom) → Each (λ a. satisfied I p a ≡ true) axioms → Each Edge (all_edges env axioms)
    unfolding all_edges
    all_edges_lem [] h = tt
    all_edges_lem (a ∷ l) h = each_append Edge (role_edges env a) (all_edges env l) (axiom_edges_lem a h.0) (all_edges_lem l h.1)

    pub set_reflexive : (axioms : List Axiom) → all (satisfied I p) axioms ≡ true → Each Reflexive (reflexive_role_ids env axioms)
    unfolding reflexive_role_ids
    set_reflexive axioms h =
        let u = all_each (satisfied I p) axioms h in
        closed_reflexive (suc (length (all_edges env axioms))) (all_edges env axioms) (reflexive_from env [] axioms) (all_edges_lem axioms u) (from_reflexive [] axioms tt u)

    pub ids_reflexive : (axioms : List Axiom) → all (satisfied I p) axioms ≡ true → (i : ℕ) → contains (reflexive_role_ids env axioms) i ≡ true → Reflexive i
    ids_reflexive axioms h i = each_contains Reflexive (reflexive_role_ids env axioms) i (set_reflexive axioms h)

  -- with the map that the same axioms make
  pub own_reflexive : (far : Bool) (env : Env) (p : Pool) (axioms : List Axiom) → env.inverse_canon ≡ inverse_canon_of far axioms → all (satisfied I p) axioms ≡ true
      → Each Reflexive (reflexive_role_ids env axioms)
  own_reflexive far env p axioms e h = set_reflexive env (env_keeps I far env p axioms e (all_some is_inverse_axiom (satisfied I p) axioms h)) p axioms h
