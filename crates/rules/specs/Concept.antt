-- Concepts over pool ids (ir.rs) and axioms (ontology.rs), with their rows: a kind and its numbers, as a deck has them.
use Rattle.std.specs.Prelude.{Bool, List, [], ◌∷◌, ℕ}
use Rattle.ir.specs.declared.role.Role.{Role}
use Rattle.ir.specs.Roles.{role_code}
use Rattle.ir.specs.Records.{same_words}

pub data Concept : Type 0 where
  Top Bot : Concept
  Atomic Nominal : ℕ → Concept
  SelfRestriction : Role → Concept
  Not : ℕ → Concept
  And Or : List ℕ → Concept
  Some All : Role → ℕ → Concept
  Min Max : ℕ → Role → ℕ → Concept

abbrev pub concept_row : Concept → List ℕ
concept_row Top = 1 ∷ []
concept_row Bot = 2 ∷ []
concept_row (Atomic a) = 3 ∷ a ∷ []
concept_row (Nominal i) = 4 ∷ i ∷ []
concept_row (SelfRestriction r) = 5 ∷ role_code r ∷ []
concept_row (Not c) = 6 ∷ c ∷ []
concept_row (And l) = 7 ∷ l
concept_row (Or l) = 8 ∷ l
concept_row (Some r c) = 9 ∷ role_code r ∷ c ∷ []
concept_row (All r c) = 10 ∷ role_code r ∷ c ∷ []
concept_row (Min n r c) = 11 ∷ n ∷ role_code r ∷ c ∷ []
concept_row (Max n r c) = 12 ∷ n ∷ role_code r ∷ c ∷ []

-- two concepts are equal where their rows are
abbrev pub same_concept : Concept → Concept → Bool
same_concept e d = same_words (concept_row e) (concept_row d)

pub data Axiom : Type 0 where
  SubClassOf : ℕ → ℕ → Axiom
  EquivalentClasses DisjointClasses : List ℕ → Axiom
  DisjointUnion : ℕ → List ℕ → Axiom
  ObjectPropertyDomain ObjectPropertyRange : Role → ℕ → Axiom
  -- SubObjectPropertyOf with a chain of parts: sup, then parts
  SubChain : Role → List Role → Axiom
  TransitiveRole IrreflexiveRole AsymmetricRole : Role → Axiom
  DisjointObjectProperties : List Role → Axiom
  -- read only
  InverseObjectProperties : Role → Role → Axiom
  SubObjectPropertyOf : Role → Role → Axiom
  EquivalentObjectProperties : List Role → Axiom
  ReflexiveRole : Role → Axiom
  ClassAssertion : ℕ → ℕ → Axiom
