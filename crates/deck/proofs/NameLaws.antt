-- What the names of a concept and of an axiom come to, for the kinds that the code takes in one arm.
-- Assumes nothing.
use mathlib.Core.Path.{◌≡◌, refl}
use mathlib.Core.Bool.{true, false, ◌&&◌}
use mathlib.Core.List.{List}
use Prim.Native.Nat.{ℕ, ◌<◌, ◌≤◌}
use native.Mathlib.Omega.{arith}
use borrow.Author.Tests.{eqb-true, leb-true, ltb-true, ne_eqb}
use lib.Dec.{eqb, leb, ltb}
use lib.ListN.{get_or, drop}
use Rattle.rules.specs.Base.{all}
use Rattle.rules.specs.Deck.{Header, role_at, role_ok, concept_of, axiom_of, concept_names_ok, axiom_names_ok}
use Rattle.ir.specs.Roles.{role_of}
use Rattle.rules.specs.TextLaws.{by_test}
use Rattle.deck.proofs.KindLaws.{from, all_map}
use Rattle.std.proofs.lemmas.Bool.{and_parts}

-- a number outside of a range is none of the range's
outside : (k low high : ℕ) → (low ≤ k → high ≤ k) → (m : ℕ) → leb low m && ltb m high ≡ true → eqb k m ≡ false
outside k low high far m b =
    let p = and_parts (leb low m) (ltb m high) b in
    ne_eqb k m (λ d. omega (arith, far, leb-true low m p.0, ltb-true m high p.1))

module _ (h : Header) (r : List ℕ) (k : ℕ) where
  -- Top, Bot, Not, And and Or
  pub no_names : 1 ≤ k → k < 9 → (k ≡ 3 → ⊥) → (k ≡ 4 → ⊥) → (k ≡ 5 → ⊥) → concept_names_ok h (concept_of k r) ≡ true
  unfolding concept_of
  no_names low high c d e =
      let P : ℕ → Type 0 = λ k. concept_names_ok h (concept_of k r) ≡ true in
      from P k 1 low refl (λ o. from P k 2 o refl (λ o. from P k 6 (omega (arith, c, d, e)) refl (λ o. from P k 7 o refl (λ o. from P k 8 o refl (λ o. absurd (omega arith))))))

  -- SelfRestriction, Some and All
  pub role_names : 5 ≤ k → k < 11 → (5 < k → 9 ≤ k) → concept_names_ok h (concept_of k r) ≡ role_ok h (role_at r 1)
  unfolding concept_of
  role_names low high gap =
      let P : ℕ → Type 0 = λ k. concept_names_ok h (concept_of k r) ≡ role_ok h (role_at r 1) in
      from P k 5 low refl (λ o. from P k 9 (gap (omega arith)) refl (λ o. from P k 10 o refl (λ o. absurd (omega arith))))

  -- Min and Max
  pub bound_names : (1 ≤ k → 11 ≤ k) → concept_names_ok h (concept_of k r) ≡ role_ok h (role_at r 2)
  unfolding concept_of
  bound_names far =
      let other = outside k 1 11 far in
      by_test (eqb k 11) (λ e. rw (eqb-true k 11 e) refl) (λ e. rw (other 1 refl, other 2 refl, other 3 refl, other 4 refl, other 5 refl, other 6 refl, other 7 refl, other 8 refl, other 9 refl, other 10 refl, e) refl)

module _ (h : Header) (r : List ℕ) (n k : ℕ) where
  -- EquivalentClasses and DisjointClasses
  pub list_names : 22 ≤ k → k < 24 → axiom_names_ok h n (axiom_of k r) ≡ all (λ c. ltb c n) (drop 1 r)
  unfolding axiom_of
  list_names low high =
      let P : ℕ → Type 0 = λ k. axiom_names_ok h n (axiom_of k r) ≡ all (λ c. ltb c n) (drop 1 r) in
      from P k 22 low refl (λ o. from P k 23 o refl (λ o. absurd (omega arith)))

  -- ObjectPropertyDomain and ObjectPropertyRange
  pub domain_names : 25 ≤ k → k < 27 → axiom_names_ok h n (axiom_of k r) ≡ role_ok h (role_at r 1) && ltb (get_or r 2 0) n
  unfolding axiom_of
  domain_names low high =
      let P : ℕ → Type 0 = λ k. axiom_names_ok h n (axiom_of k r) ≡ role_ok h (role_at r 1) && ltb (get_or r 2 0) n in
      from P k 25 low refl (λ o. from P k 26 o refl (λ o. absurd (omega arith)))

  -- TransitiveRole, IrreflexiveRole, AsymmetricRole and ReflexiveRole
  pub one_role : 28 ≤ k → k < 36 → (31 ≤ k → 35 ≤ k) → axiom_names_ok h n (axiom_of k r) ≡ role_ok h (role_at r 1)
  unfolding axiom_of
  one_role low high gap =
      let P : ℕ → Type 0 = λ k. axiom_names_ok h n (axiom_of k r) ≡ role_ok h (role_at r 1) in
      from P k 28 low refl (λ o. from P k 29 o refl (λ o. from P k 30 o refl (λ o. from P k 35 (gap o) refl (λ o. absurd (omega arith)))))

  -- DisjointObjectProperties and EquivalentObjectProperties
  pub many_roles : 31 ≤ k → k < 35 → (31 < k → 34 ≤ k) → axiom_names_ok h n (axiom_of k r) ≡ all (λ c. role_ok h (role_of c)) (drop 1 r)
  unfolding axiom_of
  many_roles low high gap =
      let P : ℕ → Type 0 = λ k. axiom_names_ok h n (axiom_of k r) ≡ all (λ c. role_ok h (role_of c)) (drop 1 r) in
      let same = all_map (role_ok h) role_of (drop 1 r) in
      from P k 31 low same (λ o. from P k 34 (gap (omega arith)) same (λ o. absurd (omega arith)))

  -- InverseObjectProperties and SubObjectPropertyOf
  pub two_roles : 32 ≤ k → k < 34 → axiom_names_ok h n (axiom_of k r) ≡ role_ok h (role_at r 1) && role_ok h (role_at r 2)
  unfolding axiom_of
  two_roles low high =
      let P : ℕ → Type 0 = λ k. axiom_names_ok h n (axiom_of k r) ≡ role_ok h (role_at r 1) && role_ok h (role_at r 2) in
      from P k 32 low refl (λ o. from P k 33 o refl (λ o. absurd (omega arith)))

  -- ClassAssertion
  pub assertion_names : (21 ≤ k → 36 ≤ k) → axiom_names_ok h n (axiom_of k r) ≡ ltb (get_or r 1 0) n && ltb (get_or r 2 0) h.individuals
  unfolding axiom_of
  assertion_names far =
      let other = outside k 21 36 far in
      rw (other 21 refl, other 22 refl, other 23 refl, other 24 refl, other 25 refl, other 26 refl, other 27 refl, other 28 refl, other 29 refl, other 30 refl, other 31 refl, other 32 refl, other 33 refl, other 34 refl, other 35 refl) refl
