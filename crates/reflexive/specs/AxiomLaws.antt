-- The axioms that the search reads. Assumes nothing.
use Rattle.std.specs.Prelude.{◌≡◌, refl, true, List, [], ◌∷◌, map, ℕ, ◌+◌, ◌*◌, ◌-◌, ◌<◌, ◌≤◌, get_or}
use Rattle.std.proofs.Common.{sym, ap, subst, ◌∙◌, arith, zero-add, eqb-true, leb-true}
use Rattle.words.specs.Words.{words}
use Rattle.ir.specs.Scratch.{axioms_at, numbers_at, lines_at}
use Rattle.ir.specs.Roles.{role_of}
use Rattle.rules.specs.Concept.{SubObjectPropertyOf, EquivalentObjectProperties, ReflexiveRole}
use Rattle.rules.specs.Deck.{most_roles, section_of, fields_ok, axiom_of}
use Rattle.rules.specs.Invariants.{Each, RoleIn, AxiomIn}
use Rattle.rules.specs.State.{Env}
use Rattle.rules.specs.Reflexive.{canon_id, declared_reflexive, edges_among, role_edges}
use Rattle.deck.proofs.KindLaws.{axiom_kinds}
use Rattle.pool.specs.Layout.{tab, run}
use Rattle.pool.specs.Tabs.{tab_each, tab_same, map_tab}
use Rattle.ontology.specs.Layout.{axiom_start, axiom_count, axiom_number, axiom_row, axiom_at}
use Rattle.ontology.specs.Rows.{row_axiom, sub_role_is, equivalent_roles_is, reflexive_is}
use Rattle.inverse.specs.Layout.{RolesHeld, Building}
use Rattle.inverse.specs.AxiomLaws.{code_small}
use Rattle.reflexive.specs.Flags.{OnlyFlags}
use Rattle.reflexive.specs.Steps.{id_at, ids_at, Codes}
use Rattle.reflexive.specs.IdLaws.{mapped_id}

-- ---- by kind
abbrev NoEdges : Env → List ℕ → ℕ → Type 0
NoEdges env r k = (k ≡ 33 → ⊥) → (k ≡ 34 → ⊥) → role_edges env (axiom_of k r) ≡ []

-- an axiom of another kind has no edges
pub no_edges : (env : Env) (r : List ℕ) (k : ℕ) → section_of k ≡ 4 → NoEdges env r k
unfolding axiom_of
no_edges env r =
    axiom_kinds (NoEdges env r) (λ _ _. refl) (λ _ _. refl) (λ _ _. refl) (λ _ _. refl) (λ _ _. refl) (λ _ _. refl) (λ _ _. refl) (λ _ _. refl) (λ _ _. refl) (λ _ _. refl) (λ _ _. refl) (λ _ _. refl)
    (λ h _. absurd (h refl)) (λ _ h. absurd (h refl)) (λ _ _. refl) (λ _ _. refl)

abbrev Undeclared : Env → List ℕ → List ℕ → ℕ → Type 0
Undeclared env set r k = (k ≡ 35 → ⊥) → declared_reflexive env set (axiom_of k r) ≡ set

-- an axiom of another kind declares nothing
pub undeclared : (env : Env) (set r : List ℕ) (k : ℕ) → section_of k ≡ 4 → Undeclared env set r k
unfolding axiom_of
undeclared env set r =
    axiom_kinds (Undeclared env set r) (λ _. refl) (λ _. refl) (λ _. refl) (λ _. refl) (λ _. refl) (λ _. refl) (λ _. refl) (λ _. refl) (λ _. refl) (λ _. refl) (λ _. refl) (λ _. refl) (λ _. refl) (λ _. refl)
    (λ h. absurd (h refl)) (λ _. refl)

-- ---- the numbers of axiom i
module _ (s : List ℕ) (n i : ℕ) (A : Building s n) (h : i < n) where
  axiom_in : AxiomIn A.bounds A.concepts (axiom_at (words s) i)
  axiom_in = let e : 0 + i ≡ i = zero-add i in rw e at (tab_each (axiom_at (words s)) (AxiomIn A.bounds A.concepts) 0 n A.inside i h)

  fields : (k : ℕ) → axiom_number (words s) i 0 ≡ k → fields_ok k (axiom_count (words s) i) ≡ true
  fields k e = subst (λ (x : ℕ). fields_ok x (axiom_count (words s) i) ≡ true) e (A.held.fields i h)

  of_kind : (k : ℕ) → axiom_number (words s) i 0 ≡ k → axiom_at (words s) i ≡ row_axiom (words s) k (numbers_at + axiom_start (words s) i) (axiom_count (words s) i)
  of_kind k e = ap (λ (x : ℕ). axiom_of x (axiom_row (words s) i)) e

  module _ (k : axiom_number (words s) i 0 ≡ 33) where
    three : axiom_count (words s) i ≡ 3
    three = eqb-true (axiom_count (words s) i) 3 (fields 33 k)

    sub_axiom : axiom_at (words s) i ≡ SubObjectPropertyOf (role_of (axiom_number (words s) i 1)) (role_of (axiom_number (words s) i 2))
    sub_axiom = of_kind 33 k ∙ sub_role_is (words s) (numbers_at + axiom_start (words s) i) (axiom_count (words s) i) three

    sub_in : RoleIn A.bounds (role_of (axiom_number (words s) i 1)) × RoleIn A.bounds (role_of (axiom_number (words s) i 2))
    sub_in = subst (AxiomIn A.bounds A.concepts) sub_axiom axiom_in

    pub sub_small : (x : ℕ) → x ≡ axiom_number (words s) i 1 → x < 2 * most_roles
    sub_small x e = rw e (code_small A.bounds (axiom_number (words s) i 1) A.few sub_in.0)

    pub sup_small : (x : ℕ) → x ≡ axiom_number (words s) i 2 → x < 2 * most_roles
    sup_small x e = rw e (code_small A.bounds (axiom_number (words s) i 2) A.few sub_in.1)

    pub sub_edges : (env : Env) → RolesHeld (words s) env.inverse_canon → (id_at (words s) (axiom_number (words s) i 1), id_at (words s) (axiom_number (words s) i 2)) ∷ [] ≡ role_edges env (axiom_at (words s) i)
    sub_edges env R =
        let p = mapped_id (words s) env.inverse_canon (axiom_number (words s) i 1) R (sub_small _ refl) in
        let q = mapped_id (words s) env.inverse_canon (axiom_number (words s) i 2) R (sup_small _ refl) in
        sym (ap (role_edges env) sub_axiom ∙ rw (p, q) refl)

  module _ (k : axiom_number (words s) i 0 ≡ 35) where
    two : axiom_count (words s) i ≡ 2
    two = eqb-true (axiom_count (words s) i) 2 (fields 35 k)

    reflexive_axiom : axiom_at (words s) i ≡ ReflexiveRole (role_of (axiom_number (words s) i 1))
    reflexive_axiom = of_kind 35 k ∙ reflexive_is (words s) (numbers_at + axiom_start (words s) i) (axiom_count (words s) i) two

    pub reflexive_small : (x : ℕ) → x ≡ axiom_number (words s) i 1 → x < 2 * most_roles
    reflexive_small x e = rw e (code_small A.bounds (axiom_number (words s) i 1) A.few (subst (AxiomIn A.bounds A.concepts) reflexive_axiom axiom_in))

    pub reflexive_id : (env : Env) (set : List ℕ) → declared_reflexive env set (ReflexiveRole (role_of (axiom_number (words s) i 1))) ≡ declared_reflexive env set (axiom_at (words s) i)
    reflexive_id env set = sym (ap (declared_reflexive env set) reflexive_axiom)

  module _ (k : axiom_number (words s) i 0 ≡ 34) where
    pub some : 1 ≤ axiom_count (words s) i
    some = leb-true 1 (axiom_count (words s) i) (fields 34 k)

    equal_axiom : axiom_at (words s) i ≡ EquivalentObjectProperties (map role_of (run (words s) (numbers_at + axiom_start (words s) i + 1) (axiom_count (words s) i - 1)))
    equal_axiom = of_kind 34 k ∙ equivalent_roles_is (words s) (numbers_at + axiom_start (words s) i) (axiom_count (words s) i)

    equal_in : Each (RoleIn A.bounds) (tab (λ j. role_of (get_or (words s) j 0)) (numbers_at + axiom_start (words s) i + 1) (axiom_count (words s) i - 1))
    equal_in =
        subst (Each (RoleIn A.bounds)) (map_tab role_of (λ j. get_or (words s) j 0) (numbers_at + axiom_start (words s) i + 1) (axiom_count (words s) i - 1))
        (subst (AxiomIn A.bounds A.concepts) equal_axiom axiom_in)

    equal_small : (j : ℕ) → j < axiom_count (words s) i - 1 → get_or (words s) (numbers_at + axiom_start (words s) i + 1 + j) 0 < 2 * most_roles
    equal_small j l = code_small A.bounds (get_or (words s) (numbers_at + axiom_start (words s) i + 1 + j) 0) A.few
        (tab_each (λ x. role_of (get_or (words s) x 0)) (RoleIn A.bounds) (numbers_at + axiom_start (words s) i + 1) (axiom_count (words s) i - 1) equal_in j l)

    module _ (at m : ℕ) (ea : at ≡ numbers_at + axiom_start (words s) i + 1) (en : m ≡ axiom_count (words s) i - 1) where
      pub equal_codes : Codes (words s) at m
      equal_codes = rw (ea, en) (record { above = omega arith; below = omega (arith, A.held.within i h, some); small = equal_small })

      pub equal_edges : (env : Env) → RolesHeld (words s) env.inverse_canon → edges_among env (ids_at (words s) at m) (ids_at (words s) at m) ≡ role_edges env (axiom_at (words s) i)
      equal_edges env R =
          let p : map (canon_id env) (map role_of (run (words s) at m)) ≡ ids_at (words s) at m =
          ap (map (canon_id env)) (map_tab role_of (λ j. get_or (words s) j 0) at m) ∙ map_tab (canon_id env) (λ j. role_of (get_or (words s) j 0)) at m
          ∙ tab_same (λ j. canon_id env (role_of (get_or (words s) j 0))) (λ j. id_at (words s) (get_or (words s) j 0)) at at m (λ j q. mapped_id (words s) env.inverse_canon (get_or (words s) (at + j) 0) R (equal_codes.small j q)) in
          let e : axiom_at (words s) i ≡ EquivalentObjectProperties (map role_of (run (words s) at m)) = rw (ea, en) equal_axiom in
          sym (ap (role_edges env) e ∙ ap (λ (x : List ℕ). edges_among env x x) p)

-- ---- flags leave the axioms as they are
pub flags_axioms : (w w' : List ℕ) → OnlyFlags w w' → (j : ℕ) → axioms_at ≤ j → j < lines_at → get_or w' j 0 ≡ get_or w j 0
flags_axioms w w' O j h k = O.behind j (omega arith)
