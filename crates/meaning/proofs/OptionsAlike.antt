-- The same meaning with and without each option: where the one run's clauses hold, the deck's axioms are satisfied, and so sets exist with
-- which the other's hold. Assumes nothing.
use Rattle.std.specs.Prelude.{◌≡◌, refl, true, false, Bool, not, ◌||◌, List, [], ◌∷◌, ℕ, ◌+◌, ◌<◌}
use Rattle.std.proofs.Common.{sym, ap, ◌∙◌, arith}
use Rattle.std.proofs.lemmas.Bool.{lt-leb}
use Rattle.rules.specs.Base.{all}
use Rattle.rules.specs.Concept.{Axiom}
use Rattle.rules.specs.Concept.{SubClassOf, EquivalentClasses, DisjointClasses, DisjointUnion, ObjectPropertyDomain, ObjectPropertyRange, SubChain, TransitiveRole, IrreflexiveRole, AsymmetricRole, DisjointObjectProperties, InverseObjectProperties, SubObjectPropertyOf, EquivalentObjectProperties, ReflexiveRole, ClassAssertion}
use Rattle.rules.specs.Deck.{Known, optioned, fine, read_deck}
use Rattle.rules.specs.DeckLaws.{read_in}
use Rattle.rules.specs.Run.{Lengths, Accepted, accepted, Run, first_fresh}
use Rattle.rules.specs.Semantics.{Interpretation, with_classes, satisfied}
use Rattle.rules.specs.Statements.{Proper, Provisos, Extension, is_inverse_axiom, is_clausified, satisfies_some, satisfies_all, clauses_of, OptionsMeanAlike}
use Rattle.meaning.specs.Truth.{and_both, and_left, and_right}
use Rattle.meaning.specs.Valuations.{Agree}
use Rattle.meaning.specs.DeckAgree.{some_agree}
use Rattle.meaning.proofs.Theorem.{demand_three_first, demand_three_second}

-- ---- axioms by their kinds
parts_all : (p : Axiom → Bool) (l : List Axiom) → all (λ x. not (is_clausified x) || p x) l ≡ true → all (λ x. not (not (is_clausified x)) || p x) l ≡ true → all p l ≡ true
parts_all p [] c o = refl
parts_all p (x ∷ l) c o =
    and_both (one (is_clausified x) (p x) (and_left (not (is_clausified x) || p x) (all (λ x. not (is_clausified x) || p x) l) c) (and_left (not (not (is_clausified x)) || p x) (all (λ x. not (not (is_clausified x)) || p x) l) o))
    (parts_all p l (and_right (not (is_clausified x) || p x) (all (λ x. not (is_clausified x) || p x) l) c) (and_right (not (not (is_clausified x)) || p x) (all (λ x. not (not (is_clausified x)) || p x) l) o))
  where
    one : (k b : Bool) → not k || b ≡ true → not (not k) || b ≡ true → b ≡ true
    one true b c o = c
    one false b c o = o

inverse_other : (p : Axiom → Bool) (l : List Axiom) → all (λ x. not (not (is_clausified x)) || p x) l ≡ true → all (λ x. not (is_inverse_axiom x) || p x) l ≡ true
inverse_other p [] o = refl
inverse_other p (x ∷ l) o =
    and_both (one x (and_left (not (not (is_clausified x)) || p x) (all (λ x. not (not (is_clausified x)) || p x) l) o))
    (inverse_other p l (and_right (not (not (is_clausified x)) || p x) (all (λ x. not (not (is_clausified x)) || p x) l) o))
  where
    one : (x : Axiom) → not (not (is_clausified x)) || p x ≡ true → not (is_inverse_axiom x) || p x ≡ true
    one (SubClassOf _ _) h = refl
    one (EquivalentClasses _) h = refl
    one (DisjointClasses _) h = refl
    one (DisjointUnion _ _) h = refl
    one (ObjectPropertyDomain _ _) h = refl
    one (ObjectPropertyRange _ _) h = refl
    one (SubChain _ _) h = refl
    one (TransitiveRole _) h = refl
    one (IrreflexiveRole _) h = refl
    one (AsymmetricRole _) h = refl
    one (DisjointObjectProperties _) h = refl
    one (InverseObjectProperties _ _) h = h
    one (SubObjectPropertyOf _ _) h = refl
    one (EquivalentObjectProperties _) h = refl
    one (ReflexiveRole _) h = refl
    one (ClassAssertion _ _) h = refl

-- ---- the clauses hold, so the axioms are satisfied
module _ (deck : List ℕ) (t : Lengths) (d : Known) (a : Accepted) (e : read_deck deck ≡ fine d) (q : Run deck t ≡ accepted a)
    (V : Provisos d a.fresh_ids a.stats.deferred (clauses_of t a)) (I : Interpretation) (P : Proper d I) (others : satisfies_some (λ x. not (is_clausified x)) d I ≡ true) where
  module _ (E : Extension d a.fresh_ids (clauses_of t a) I) where
    below : (c : ℕ) → c < first_fresh d → E.sets c ≡ I.class c
    below c h = E.same c (rw (lt-leb (first_fresh d) c h) refl)

    agrees : Agree (first_fresh d) E.sets I.class
    agrees = record { same = below }

    proper : Proper d (with_classes I E.sets)
    proper = record {
      inhabited = P.inhabited;
      elements = P.elements;
      alone = λ i x h u. ap (λ f. f x) (below (d.header.classes + i) (omega arith)) ∙ P.alone i x h u;
    }

    satisfied_all : satisfies_all d I ≡ true
    satisfied_all =
        let D = read_in deck d e in
        let inverses = some_agree d D I E.sets agrees is_inverse_axiom ∙ inverse_other (satisfied I d.concepts) d.axioms others in
        parts_all (satisfied I d.concepts) d.axioms
        (sym (some_agree d D I E.sets agrees is_clausified) ∙ demand_three_second deck t d a e q V (with_classes I E.sets) proper E.hold inverses) others

pub options_mean_alike : OptionsMeanAlike
options_mean_alike deck other t u d n a b e q v f r w I P o = record {
  there = λ E. demand_three_first other u (optioned d n) b f r I (record { inhabited = P.inhabited; elements = P.elements; alone = P.alone }) (satisfied_all deck t d a e q v I P o E);
  back = λ E. demand_three_first deck t d a e q I P (satisfied_all other u (optioned d n) b f r w I (record { inhabited = P.inhabited; elements = P.elements; alone = P.alone }) o E);
}
