-- The semantics tried: a table of concepts and a table of axioms, each checked by one computation. Every kind stands where it holds
-- and where it does not, as OWL 2 Direct Semantics and document 01 say; what is expected is written out by hand.
use Rattle.std.specs.Prelude.{◌≡◌, refl, Bool, not, ◌&&◌, List, [], ◌∷◌, ◌++◌, map, ℕ, ◌+◌, length, get_or}
use Rattle.ir.specs.declared.role.Role.{Role}
use Rattle.ir.specs.declared.role.Role.TheVariants.{Named, Inverse}
use Rattle.rules.specs.Base.{filter}
use Rattle.rules.specs.Concept.{Concept, Axiom}
use Rattle.rules.specs.Concept.{Top, Bot, Atomic, Nominal, SelfRestriction, Not, And, Or, Some, All, Min, Max}
use Rattle.rules.specs.Concept.{SubClassOf, EquivalentClasses, DisjointClasses, DisjointUnion, ObjectPropertyDomain, ObjectPropertyRange, SubChain, TransitiveRole, IrreflexiveRole, AsymmetricRole, DisjointObjectProperties, InverseObjectProperties, SubObjectPropertyOf, EquivalentObjectProperties, ReflexiveRole, ClassAssertion}
use Rattle.rules.specs.Pool.{Pool}
use Rattle.rules.specs.Axioms.{paired, later_pairs}
use Rattle.rules.specs.Semantics.{Interpretation, elements_below, meanings_from, means, chain_related, satisfied}
use Rattle.rules.proofs.Tried.{interpretation}

-- concept 0 is Top; the concepts A, B and C are the classes 0, 1 and 2
abbrev pub pool : Pool
pool = Top ∷ Atomic 0 ∷ Atomic 1 ∷ Atomic 2 ∷ []

abbrev pub A : ℕ
A = 1

abbrev pub B : ℕ
B = 2

abbrev pub C : ℕ
C = 3

abbrev pub r : Role
r = Named 0

abbrev pub s : Role
s = Named 1

abbrev pub t : Role
t = Named 2

abbrev pub r⁻ : Role
r⁻ = Inverse 0

abbrev pub s⁻ : Role
s⁻ = Inverse 1

-- with individual i at the list's i-th element
abbrev pub placed : List ℕ → Interpretation → Interpretation
placed l I = record { size = I.size; class = I.class; role = I.role; individual = λ i. get_or l i 0 }

-- ---- concepts, in one interpretation
-- Its elements are 0 to 7, in A, B and C by their bits. Successors along r: 1 has one, outside A; 2, 3 and 4 have one, two and three
-- in A, and 2 and 3 also one outside A; the others have none.
abbrev pub eight : Interpretation
eight = placed (2 ∷ 5 ∷ 2 ∷ []) (interpretation 8 ((1 ∷ 3 ∷ 5 ∷ 7 ∷ []) ∷ (2 ∷ 3 ∷ 6 ∷ 7 ∷ []) ∷ (4 ∷ 5 ∷ 6 ∷ 7 ∷ []) ∷ [])
    (((1, 2) ∷ (2, 1) ∷ (2, 2) ∷ (3, 1) ∷ (3, 2) ∷ (3, 3) ∷ (4, 1) ∷ (4, 3) ∷ (4, 5) ∷ []) ∷ []))

-- records that follow the pool's, from id 4 on; and the elements at which the last of them holds: at the others it does not
abbrev pub concepts : List (List Concept × List ℕ)
concepts =
    -- 1, 2: always, never
    (Top ∷ [], 0 ∷ 1 ∷ 2 ∷ 3 ∷ 4 ∷ 5 ∷ 6 ∷ 7 ∷ []) ∷
    (Bot ∷ [], []) ∷
    -- 3
    (Atomic 0 ∷ [], 1 ∷ 3 ∷ 5 ∷ 7 ∷ []) ∷
    (Atomic 1 ∷ [], 2 ∷ 3 ∷ 6 ∷ 7 ∷ []) ∷
    -- 4: two individuals are one element
    (Nominal 0 ∷ [], 2 ∷ []) ∷
    (Nominal 1 ∷ [], 5 ∷ []) ∷
    (Nominal 2 ∷ [], 2 ∷ []) ∷
    -- 5
    (SelfRestriction r ∷ [], 2 ∷ 3 ∷ []) ∷
    (SelfRestriction r⁻ ∷ [], 2 ∷ 3 ∷ []) ∷
    -- 6
    (Not A ∷ [], 0 ∷ 2 ∷ 4 ∷ 6 ∷ []) ∷
    -- 7
    (And (A ∷ B ∷ []) ∷ [], 3 ∷ 7 ∷ []) ∷
    (And (A ∷ B ∷ C ∷ []) ∷ [], 7 ∷ []) ∷
    -- 8
    (Or (A ∷ B ∷ []) ∷ [], 1 ∷ 2 ∷ 3 ∷ 5 ∷ 6 ∷ 7 ∷ []) ∷
    (Or (A ∷ B ∷ C ∷ []) ∷ [], 1 ∷ 2 ∷ 3 ∷ 4 ∷ 5 ∷ 6 ∷ 7 ∷ []) ∷
    -- 9
    (Some r A ∷ [], 2 ∷ 3 ∷ 4 ∷ []) ∷
    (Some r⁻ A ∷ [], 1 ∷ 2 ∷ 3 ∷ []) ∷
    -- 10: also where there is no successor
    (All r A ∷ [], 0 ∷ 4 ∷ 5 ∷ 6 ∷ 7 ∷ []) ∷
    (All r⁻ C ∷ [], 0 ∷ 4 ∷ 5 ∷ 6 ∷ 7 ∷ []) ∷
    -- 11: with 0 always; over Top, every successor counts
    (Min 0 r A ∷ [], 0 ∷ 1 ∷ 2 ∷ 3 ∷ 4 ∷ 5 ∷ 6 ∷ 7 ∷ []) ∷
    (Min 1 r A ∷ [], 2 ∷ 3 ∷ 4 ∷ []) ∷
    (Min 2 r A ∷ [], 3 ∷ 4 ∷ []) ∷
    (Min 3 r A ∷ [], 4 ∷ []) ∷
    (Min 2 r 0 ∷ [], 2 ∷ 3 ∷ 4 ∷ []) ∷
    (Min 2 r⁻ A ∷ [], 2 ∷ []) ∷
    -- 12
    (Max 0 r A ∷ [], 0 ∷ 1 ∷ 5 ∷ 6 ∷ 7 ∷ []) ∷
    (Max 1 r A ∷ [], 0 ∷ 1 ∷ 2 ∷ 5 ∷ 6 ∷ 7 ∷ []) ∷
    (Max 2 r A ∷ [], 0 ∷ 1 ∷ 2 ∷ 3 ∷ 5 ∷ 6 ∷ 7 ∷ []) ∷
    (Max 2 r 0 ∷ [], 0 ∷ 1 ∷ 2 ∷ 5 ∷ 6 ∷ 7 ∷ []) ∷
    (Max 1 r⁻ A ∷ [], 0 ∷ 1 ∷ 3 ∷ 4 ∷ 5 ∷ 6 ∷ 7 ∷ []) ∷
    -- over another record
    (Some r A ∷ Not 4 ∷ [], 0 ∷ 1 ∷ 5 ∷ 6 ∷ 7 ∷ []) ∷
    (Not A ∷ Some r 4 ∷ [], 1 ∷ 2 ∷ 3 ∷ []) ∷
    (Bot ∷ All r 4 ∷ [], 0 ∷ 5 ∷ 6 ∷ 7 ∷ []) ∷
    (Min 1 r A ∷ Max 1 r 4 ∷ [], 0 ∷ 1 ∷ 2 ∷ 4 ∷ 5 ∷ 6 ∷ 7 ∷ []) ∷
    []

abbrev pub holds_at : List Concept → ℕ → Bool
holds_at l x = means eight (pool ++ l) (3 + length l) x

pub concepts_hold : map (λ c. (c.0, filter (holds_at c.0) (0 ∷ 1 ∷ 2 ∷ 3 ∷ 4 ∷ 5 ∷ 6 ∷ 7 ∷ []))) concepts ≡ concepts
unfolding filter elements_below meanings_from means
concepts_hold = refl

-- ---- axioms, in interpretations with the elements 0 to 3, or 0 to 2 where there are pairs
-- sets for A, B and C
abbrev pub sets : (a b c : List ℕ) → Interpretation
sets a b c = interpretation 4 (a ∷ b ∷ c ∷ []) []

-- a set for class 3, then those for A, B and C
abbrev pub union : (u a b c : List ℕ) → Interpretation
union u a b c = interpretation 4 (a ∷ b ∷ c ∷ u ∷ []) []

-- pairs for r, s and t
abbrev pub pairs : (p q o : List (ℕ × ℕ)) → Interpretation
pairs p q o = interpretation 3 [] (p ∷ q ∷ o ∷ [])

-- pairs for r, and a set for A
abbrev pub ends : List (ℕ × ℕ) → List ℕ → Interpretation
ends p a = interpretation 3 (a ∷ []) (p ∷ [])

abbrev pub loops : List (ℕ × ℕ)
loops = (0, 0) ∷ (1, 1) ∷ (2, 2) ∷ []

-- three sets apart, and three that are one; pairs likewise
abbrev pub apart : Interpretation
apart = sets (0 ∷ []) (1 ∷ []) (2 ∷ [])

abbrev pub alike : Interpretation
alike = sets (0 ∷ []) (0 ∷ []) (0 ∷ [])

abbrev pub pairs_apart : Interpretation
pairs_apart = pairs ((0, 1) ∷ []) ((1, 2) ∷ []) ((2, 2) ∷ [])

abbrev pub pairs_alike : Interpretation
pairs_alike = pairs ((0, 1) ∷ []) ((0, 1) ∷ []) ((0, 1) ∷ [])

pub data Row : Type 0 where
  -- satisfied in the first, not in the second
  both : Axiom → (holds fails : Interpretation) → Row
  -- satisfied in every interpretation: tried in two, one of which fails the same kind's list of two different entries
  always : Axiom → Interpretation → Interpretation → Row

abbrev pub axiom_of : Row → Axiom
axiom_of (both a I J) = a
axiom_of (always a I J) = a

abbrev pub computes : Row → Bool
computes (both a I J) = satisfied I pool a && not (satisfied J pool a)
computes (always a I J) = satisfied I pool a && satisfied J pool a

abbrev pub axioms : List Row
axioms =
    -- 21
    both (SubClassOf A B) (sets (0 ∷ []) (0 ∷ 1 ∷ []) []) (sets (0 ∷ 1 ∷ []) (0 ∷ []) []) ∷
    both (SubClassOf A B) (sets [] [] []) (sets (0 ∷ 3 ∷ []) (0 ∷ []) []) ∷
    both (SubClassOf A B) (sets (3 ∷ []) (3 ∷ []) []) (sets (0 ∷ []) (1 ∷ []) []) ∷
    -- 22: of three, one differs from the two others
    always (EquivalentClasses []) apart alike ∷
    always (EquivalentClasses (A ∷ [])) apart alike ∷
    always (EquivalentClasses (A ∷ A ∷ [])) apart alike ∷
    both (EquivalentClasses (A ∷ B ∷ [])) (sets (0 ∷ 2 ∷ []) (0 ∷ 2 ∷ []) (1 ∷ [])) (sets (0 ∷ []) [] []) ∷
    both (EquivalentClasses (A ∷ B ∷ [])) (sets [] [] (1 ∷ [])) (sets [] (0 ∷ []) []) ∷
    both (EquivalentClasses (A ∷ B ∷ C ∷ [])) alike (sets [] (0 ∷ []) (0 ∷ [])) ∷
    both (EquivalentClasses (A ∷ B ∷ C ∷ [])) alike (sets (0 ∷ []) [] (0 ∷ [])) ∷
    both (EquivalentClasses (A ∷ B ∷ C ∷ [])) alike (sets (0 ∷ []) (0 ∷ []) []) ∷
    -- 23: of three, one pair alone overlaps; a concept that is listed twice is empty
    always (DisjointClasses []) apart alike ∷
    always (DisjointClasses (A ∷ [])) apart alike ∷
    both (DisjointClasses (A ∷ B ∷ [])) (sets (0 ∷ []) (1 ∷ 2 ∷ []) []) (sets (0 ∷ 1 ∷ []) (1 ∷ 2 ∷ []) []) ∷
    both (DisjointClasses (A ∷ B ∷ C ∷ [])) apart (sets (0 ∷ []) (1 ∷ []) (0 ∷ [])) ∷
    both (DisjointClasses (A ∷ B ∷ C ∷ [])) apart (sets (0 ∷ []) (0 ∷ []) (1 ∷ [])) ∷
    both (DisjointClasses (A ∷ B ∷ C ∷ [])) apart (sets (0 ∷ []) (1 ∷ []) (1 ∷ [])) ∷
    both (DisjointClasses (A ∷ A ∷ [])) (sets [] (0 ∷ []) []) (sets (0 ∷ []) [] []) ∷
    both (DisjointClasses (A ∷ B ∷ A ∷ [])) (sets [] (0 ∷ []) []) (sets (0 ∷ []) (1 ∷ []) []) ∷
    -- 24: an element of no member, a member outside, an overlap
    both (DisjointUnion 3 []) (union [] (0 ∷ []) [] []) (union (0 ∷ []) (0 ∷ []) [] []) ∷
    both (DisjointUnion 3 (A ∷ [])) (union (0 ∷ []) (0 ∷ []) [] (1 ∷ [])) (union (0 ∷ 1 ∷ []) (0 ∷ []) [] (1 ∷ [])) ∷
    both (DisjointUnion 3 (A ∷ [])) (union [] [] [] []) (union (0 ∷ []) (0 ∷ 1 ∷ []) [] []) ∷
    both (DisjointUnion 3 (A ∷ B ∷ [])) (union (0 ∷ 1 ∷ []) (0 ∷ []) (1 ∷ []) []) (union (0 ∷ 1 ∷ 2 ∷ []) (0 ∷ []) (1 ∷ []) []) ∷
    both (DisjointUnion 3 (A ∷ B ∷ [])) (union (0 ∷ 1 ∷ []) [] (0 ∷ 1 ∷ []) []) (union (0 ∷ []) (0 ∷ []) (1 ∷ []) []) ∷
    both (DisjointUnion 3 (A ∷ B ∷ [])) (union [] [] [] (2 ∷ [])) (union (0 ∷ 1 ∷ []) (0 ∷ 1 ∷ []) (1 ∷ []) []) ∷
    both (DisjointUnion 3 (A ∷ B ∷ C ∷ [])) (union (0 ∷ 1 ∷ 2 ∷ []) (0 ∷ []) (1 ∷ []) (2 ∷ [])) (union (0 ∷ 1 ∷ 2 ∷ 3 ∷ []) (0 ∷ []) (1 ∷ []) (2 ∷ [])) ∷
    both (DisjointUnion 3 (A ∷ B ∷ C ∷ [])) (union (1 ∷ 3 ∷ []) (1 ∷ []) [] (3 ∷ [])) (union (0 ∷ 1 ∷ []) (0 ∷ []) (1 ∷ []) (2 ∷ [])) ∷
    both (DisjointUnion 3 (A ∷ B ∷ C ∷ [])) (union (1 ∷ []) [] (1 ∷ []) []) (union (0 ∷ 1 ∷ []) (0 ∷ []) (1 ∷ []) (0 ∷ [])) ∷
    both (DisjointUnion 3 (A ∷ B ∷ C ∷ [])) (union (1 ∷ []) [] [] (1 ∷ [])) (union (0 ∷ 1 ∷ []) (0 ∷ []) (0 ∷ []) (1 ∷ [])) ∷
    both (DisjointUnion 3 (A ∷ B ∷ C ∷ [])) (union (1 ∷ []) (1 ∷ []) [] []) (union (0 ∷ 1 ∷ []) (0 ∷ []) (1 ∷ []) (1 ∷ [])) ∷
    both (DisjointUnion 3 (A ∷ A ∷ [])) (union [] [] (0 ∷ []) []) (union (0 ∷ []) (0 ∷ []) [] []) ∷
    -- 25
    both (ObjectPropertyDomain r A) (ends ((0, 1) ∷ (0, 2) ∷ (2, 1) ∷ []) (0 ∷ 2 ∷ [])) (ends ((0, 1) ∷ (2, 1) ∷ []) (0 ∷ [])) ∷
    both (ObjectPropertyDomain r A) (ends [] []) (ends ((0, 1) ∷ []) (1 ∷ [])) ∷
    both (ObjectPropertyDomain r⁻ A) (ends ((0, 1) ∷ []) (1 ∷ [])) (ends ((0, 1) ∷ []) (0 ∷ [])) ∷
    -- 26
    both (ObjectPropertyRange r A) (ends ((0, 1) ∷ (0, 2) ∷ (2, 1) ∷ []) (1 ∷ 2 ∷ [])) (ends ((0, 1) ∷ (0, 2) ∷ []) (1 ∷ [])) ∷
    both (ObjectPropertyRange r A) (ends [] []) (ends ((0, 1) ∷ []) (0 ∷ [])) ∷
    both (ObjectPropertyRange r⁻ A) (ends ((0, 1) ∷ []) (0 ∷ [])) (ends ((0, 1) ∷ []) (1 ∷ [])) ∷
    -- 27: parts in another order, or that do not meet, are no chain
    both (SubChain r []) (pairs loops [] []) (pairs ((0, 0) ∷ (1, 1) ∷ []) [] []) ∷
    both (SubChain r []) (pairs ((0, 1) ∷ loops) [] []) (pairs ((0, 1) ∷ (1, 2) ∷ (2, 0) ∷ []) [] []) ∷
    both (SubChain r (s ∷ [])) (pairs ((0, 1) ∷ (1, 2) ∷ []) ((0, 1) ∷ []) []) (pairs ((0, 1) ∷ []) ((0, 1) ∷ (1, 2) ∷ []) []) ∷
    both (SubChain r (s⁻ ∷ [])) (pairs ((1, 0) ∷ []) ((0, 1) ∷ []) []) (pairs ((0, 1) ∷ []) ((0, 1) ∷ []) []) ∷
    both (SubChain r (s ∷ t ∷ [])) (pairs ((0, 2) ∷ []) ((0, 1) ∷ []) ((1, 2) ∷ [])) (pairs ((2, 0) ∷ []) ((0, 1) ∷ []) ((1, 2) ∷ [])) ∷
    both (SubChain r (s ∷ t ∷ [])) (pairs [] ((1, 2) ∷ []) ((0, 1) ∷ [])) (pairs ((0, 1) ∷ (1, 2) ∷ []) ((0, 1) ∷ []) ((1, 2) ∷ [])) ∷
    both (SubChain r (s ∷ t ∷ [])) (pairs [] ((0, 1) ∷ []) ((0, 2) ∷ (2, 1) ∷ [])) (pairs ((0, 2) ∷ []) ((0, 1) ∷ []) ((1, 2) ∷ (1, 0) ∷ [])) ∷
    both (SubChain r⁻ (s ∷ t ∷ [])) (pairs ((2, 0) ∷ []) ((0, 1) ∷ []) ((1, 2) ∷ [])) (pairs ((0, 2) ∷ []) ((0, 1) ∷ []) ((1, 2) ∷ [])) ∷
    both (SubChain r (t ∷ s⁻ ∷ [])) (pairs [] ((1, 2) ∷ []) ((0, 1) ∷ [])) (pairs [] ((2, 1) ∷ []) ((0, 1) ∷ [])) ∷
    both (SubChain r (s ∷ s ∷ t ∷ [])) (pairs ((0, 1) ∷ []) ((0, 1) ∷ (1, 2) ∷ []) ((2, 1) ∷ [])) (pairs ((1, 0) ∷ []) ((0, 1) ∷ (1, 2) ∷ []) ((2, 1) ∷ [])) ∷
    both (SubChain r (s ∷ s ∷ t ∷ [])) (pairs [] ((0, 1) ∷ (1, 2) ∷ []) ((1, 0) ∷ [])) (pairs ((0, 2) ∷ (1, 1) ∷ []) ((0, 1) ∷ (1, 2) ∷ []) ((2, 1) ∷ [])) ∷
    -- 28: a pair both ways asks for loops
    both (TransitiveRole r) (pairs ((0, 1) ∷ (1, 2) ∷ (0, 2) ∷ []) [] []) (pairs ((0, 1) ∷ (1, 2) ∷ []) [] []) ∷
    both (TransitiveRole r) (pairs ((0, 1) ∷ (0, 2) ∷ []) [] []) (pairs ((0, 1) ∷ (1, 2) ∷ (2, 0) ∷ []) [] []) ∷
    both (TransitiveRole r) (pairs ((0, 1) ∷ (2, 1) ∷ []) [] []) (pairs ((0, 1) ∷ (1, 0) ∷ []) [] []) ∷
    both (TransitiveRole r⁻) (pairs ((0, 1) ∷ (1, 2) ∷ (0, 2) ∷ []) [] []) (pairs ((0, 1) ∷ (1, 2) ∷ []) [] []) ∷
    -- 29
    both (IrreflexiveRole r) (pairs ((0, 1) ∷ (1, 0) ∷ []) [] []) (pairs ((0, 1) ∷ (2, 2) ∷ []) [] []) ∷
    both (IrreflexiveRole r⁻) (pairs ((0, 1) ∷ (1, 0) ∷ []) [] []) (pairs ((0, 0) ∷ []) [] []) ∷
    -- 30: a loop is its own turned pair
    both (AsymmetricRole r) (pairs ((0, 1) ∷ (1, 2) ∷ (2, 0) ∷ []) [] []) (pairs ((0, 1) ∷ (1, 0) ∷ []) [] []) ∷
    both (AsymmetricRole r) (pairs [] [] []) (pairs ((0, 1) ∷ (2, 2) ∷ []) [] []) ∷
    both (AsymmetricRole r⁻) (pairs ((0, 1) ∷ (1, 2) ∷ (2, 0) ∷ []) [] []) (pairs ((0, 1) ∷ (1, 0) ∷ []) [] []) ∷
    -- 31: as 23, but equal entries don't clash; a role and its inverse are unequal
    always (DisjointObjectProperties []) pairs_apart pairs_alike ∷
    always (DisjointObjectProperties (r ∷ [])) pairs_apart pairs_alike ∷
    always (DisjointObjectProperties (r ∷ r ∷ [])) pairs_apart pairs_alike ∷
    always (DisjointObjectProperties (r⁻ ∷ r⁻ ∷ [])) pairs_apart pairs_alike ∷
    both (DisjointObjectProperties (r ∷ s ∷ [])) (pairs ((0, 1) ∷ []) ((1, 0) ∷ (0, 2) ∷ []) []) (pairs ((0, 1) ∷ (1, 2) ∷ []) ((1, 2) ∷ []) []) ∷
    both (DisjointObjectProperties (r ∷ s⁻ ∷ [])) (pairs ((0, 1) ∷ []) ((0, 1) ∷ []) []) (pairs ((0, 1) ∷ []) ((1, 0) ∷ []) []) ∷
    both (DisjointObjectProperties (r ∷ r⁻ ∷ [])) (pairs ((0, 1) ∷ (1, 2) ∷ []) [] []) (pairs ((0, 1) ∷ (1, 0) ∷ []) [] []) ∷
    both (DisjointObjectProperties (r ∷ r⁻ ∷ [])) (pairs [] [] []) (pairs ((2, 2) ∷ []) [] []) ∷
    both (DisjointObjectProperties (r ∷ s ∷ t ∷ [])) pairs_apart (pairs ((0, 1) ∷ []) ((0, 2) ∷ []) ((0, 1) ∷ [])) ∷
    both (DisjointObjectProperties (r ∷ s ∷ t ∷ [])) pairs_apart (pairs ((0, 1) ∷ []) ((0, 1) ∷ []) ((0, 2) ∷ [])) ∷
    both (DisjointObjectProperties (r ∷ s ∷ t ∷ [])) pairs_apart (pairs ((0, 1) ∷ []) ((0, 2) ∷ []) ((0, 2) ∷ [])) ∷
    both (DisjointObjectProperties (r ∷ s ∷ r ∷ [])) pairs_apart pairs_alike ∷
    -- 32
    both (InverseObjectProperties r s) (pairs ((0, 1) ∷ (1, 2) ∷ []) ((1, 0) ∷ (2, 1) ∷ []) []) (pairs ((0, 1) ∷ []) ((0, 1) ∷ []) []) ∷
    both (InverseObjectProperties r s) (pairs [] [] []) (pairs ((0, 1) ∷ []) [] []) ∷
    both (InverseObjectProperties r s) (pairs loops loops []) (pairs [] ((1, 0) ∷ []) []) ∷
    both (InverseObjectProperties r s⁻) (pairs ((0, 1) ∷ []) ((0, 1) ∷ []) []) (pairs ((0, 1) ∷ []) ((1, 0) ∷ []) []) ∷
    both (InverseObjectProperties r r) (pairs ((0, 1) ∷ (1, 0) ∷ []) [] []) (pairs ((0, 1) ∷ []) [] []) ∷
    -- 33
    both (SubObjectPropertyOf r s) (pairs ((0, 1) ∷ []) ((0, 1) ∷ (1, 2) ∷ []) []) (pairs ((0, 1) ∷ (1, 2) ∷ []) ((0, 1) ∷ []) []) ∷
    both (SubObjectPropertyOf r s⁻) (pairs ((0, 1) ∷ []) ((1, 0) ∷ []) []) (pairs ((0, 1) ∷ []) ((0, 1) ∷ []) []) ∷
    -- 34: as 22
    always (EquivalentObjectProperties []) pairs_apart pairs_alike ∷
    always (EquivalentObjectProperties (r ∷ [])) pairs_apart pairs_alike ∷
    always (EquivalentObjectProperties (r ∷ r ∷ [])) pairs_apart pairs_alike ∷
    both (EquivalentObjectProperties (r ∷ s ∷ [])) (pairs ((0, 1) ∷ []) ((0, 1) ∷ []) ((1, 2) ∷ [])) (pairs ((0, 1) ∷ []) [] []) ∷
    both (EquivalentObjectProperties (r ∷ s ∷ [])) (pairs [] [] ((1, 2) ∷ [])) (pairs [] ((0, 1) ∷ []) []) ∷
    both (EquivalentObjectProperties (r ∷ s⁻ ∷ [])) (pairs ((0, 1) ∷ []) ((1, 0) ∷ []) []) (pairs ((0, 1) ∷ []) ((0, 1) ∷ []) []) ∷
    both (EquivalentObjectProperties (r ∷ s ∷ t ∷ [])) pairs_alike (pairs [] ((0, 1) ∷ []) ((0, 1) ∷ [])) ∷
    both (EquivalentObjectProperties (r ∷ s ∷ t ∷ [])) pairs_alike (pairs ((0, 1) ∷ []) [] ((0, 1) ∷ [])) ∷
    both (EquivalentObjectProperties (r ∷ s ∷ t ∷ [])) pairs_alike (pairs ((0, 1) ∷ []) ((0, 1) ∷ []) []) ∷
    -- 35
    both (ReflexiveRole r) (pairs loops [] []) (pairs ((0, 0) ∷ (1, 1) ∷ []) [] []) ∷
    both (ReflexiveRole r⁻) (pairs ((0, 1) ∷ loops) [] []) (pairs ((0, 1) ∷ (1, 2) ∷ (2, 0) ∷ []) [] []) ∷
    -- 36
    both (ClassAssertion A 0) (placed (2 ∷ 3 ∷ []) (sets (2 ∷ []) [] [])) (placed (2 ∷ 3 ∷ []) (sets (0 ∷ 1 ∷ 3 ∷ []) [] [])) ∷
    []

-- the axioms of the rows that compute otherwise: none
pub axioms_hold : map axiom_of (filter (λ a. not (computes a)) axioms) ≡ []
unfolding filter elements_below meanings_from means chain_related paired later_pairs
axioms_hold = refl
