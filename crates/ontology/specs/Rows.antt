-- An axiom where the code has it, its kind and the `count` words from `at` on: what it is, kind by kind. Assumes nothing.
use Rattle.std.specs.Prelude.{◌≡◌, ℕ, ◌+◌, ◌-◌, ◌<◌, ◌≤◌, get_or, drop}
use Rattle.std.proofs.Math.Path.{refl, ap}
use mathlib.Core.List.{List, map}
use Rattle.std.proofs.Common.{arith}
use Rattle.ir.specs.Roles.{role_of}
use Rattle.rules.specs.Concept.{Axiom, SubClassOf, EquivalentClasses, DisjointClasses, DisjointUnion, ObjectPropertyDomain, ObjectPropertyRange, SubChain, TransitiveRole, IrreflexiveRole, AsymmetricRole, DisjointObjectProperties, InverseObjectProperties, SubObjectPropertyOf, EquivalentObjectProperties, ReflexiveRole, ClassAssertion}
use Rattle.rules.specs.Deck.{axiom_of}
use Rattle.pool.specs.Layout.{run}
use Rattle.pool.specs.Tabs.{get_d_tab, drop_tab}

abbrev pub row_axiom : List ℕ → (kind at count : ℕ) → Axiom
row_axiom w kind at count = axiom_of kind (run w at count)

-- number j of the row
abbrev pub row_number : List ℕ → ℕ → ℕ → ℕ
row_number w at j = get_or w (at + j) 0

module _ (w : List ℕ) (at count : ℕ) where
  abbrev N : ℕ → ℕ
  N = row_number w at

  number : (j : ℕ) → j < count → get_or (run w at count) j 0 ≡ N j
  number j h = get_d_tab (λ x. get_or w x 0) 0 at count j h

  rest : (m : ℕ) → drop m (run w at count) ≡ run w (at + m) (count - m)
  rest m = drop_tab (λ x. get_or w x 0) at count m

  pub sub_class_is : count ≡ 3 → row_axiom w 21 at count ≡ SubClassOf (N 1) (N 2)
  unfolding axiom_of
  sub_class_is h = rw (number 1 (omega arith), number 2 (omega arith)) refl

  pub equivalent_is : row_axiom w 22 at count ≡ EquivalentClasses (run w (at + 1) (count - 1))
  unfolding axiom_of
  equivalent_is = ap EquivalentClasses (rest 1)

  pub disjoint_is : row_axiom w 23 at count ≡ DisjointClasses (run w (at + 1) (count - 1))
  unfolding axiom_of
  disjoint_is = ap DisjointClasses (rest 1)

  pub union_is : 2 ≤ count → row_axiom w 24 at count ≡ DisjointUnion (N 1) (run w (at + 2) (count - 2))
  unfolding axiom_of
  union_is h = rw (number 1 (omega arith)) (ap (DisjointUnion (N 1)) (rest 2))

  pub domain_is : count ≡ 3 → row_axiom w 25 at count ≡ ObjectPropertyDomain (role_of (N 1)) (N 2)
  unfolding axiom_of
  domain_is h = rw (number 1 (omega arith), number 2 (omega arith)) refl

  pub range_is : count ≡ 3 → row_axiom w 26 at count ≡ ObjectPropertyRange (role_of (N 1)) (N 2)
  unfolding axiom_of
  range_is h = rw (number 1 (omega arith), number 2 (omega arith)) refl

  pub chain_is : 2 ≤ count → row_axiom w 27 at count ≡ SubChain (role_of (N 1)) (map role_of (run w (at + 2) (count - 2)))
  unfolding axiom_of
  chain_is h = rw (number 1 (omega arith)) (ap (λ (l : List ℕ). SubChain (role_of (N 1)) (map role_of l)) (rest 2))

  pub transitive_is : count ≡ 2 → row_axiom w 28 at count ≡ TransitiveRole (role_of (N 1))
  unfolding axiom_of
  transitive_is h = rw (number 1 (omega arith)) refl

  pub irreflexive_is : count ≡ 2 → row_axiom w 29 at count ≡ IrreflexiveRole (role_of (N 1))
  unfolding axiom_of
  irreflexive_is h = rw (number 1 (omega arith)) refl

  pub asymmetric_is : count ≡ 2 → row_axiom w 30 at count ≡ AsymmetricRole (role_of (N 1))
  unfolding axiom_of
  asymmetric_is h = rw (number 1 (omega arith)) refl

  pub disjoint_roles_is : row_axiom w 31 at count ≡ DisjointObjectProperties (map role_of (run w (at + 1) (count - 1)))
  unfolding axiom_of
  disjoint_roles_is = ap (λ (l : List ℕ). DisjointObjectProperties (map role_of l)) (rest 1)

  pub inverse_is : count ≡ 3 → row_axiom w 32 at count ≡ InverseObjectProperties (role_of (N 1)) (role_of (N 2))
  unfolding axiom_of
  inverse_is h = rw (number 1 (omega arith), number 2 (omega arith)) refl

  pub sub_role_is : count ≡ 3 → row_axiom w 33 at count ≡ SubObjectPropertyOf (role_of (N 1)) (role_of (N 2))
  unfolding axiom_of
  sub_role_is h = rw (number 1 (omega arith), number 2 (omega arith)) refl

  pub equivalent_roles_is : row_axiom w 34 at count ≡ EquivalentObjectProperties (map role_of (run w (at + 1) (count - 1)))
  unfolding axiom_of
  equivalent_roles_is = ap (λ (l : List ℕ). EquivalentObjectProperties (map role_of l)) (rest 1)

  pub reflexive_is : count ≡ 2 → row_axiom w 35 at count ≡ ReflexiveRole (role_of (N 1))
  unfolding axiom_of
  reflexive_is h = rw (number 1 (omega arith)) refl

  pub assertion_is : count ≡ 3 → row_axiom w 36 at count ≡ ClassAssertion (N 1) (N 2)
  unfolding axiom_of
  assertion_is h = rw (number 1 (omega arith), number 2 (omega arith)) refl
