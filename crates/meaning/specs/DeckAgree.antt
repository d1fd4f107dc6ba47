-- A deck's axioms name declared classes and individuals alone: with the same sets for the declared classes, the same axioms are
-- satisfied. Assumes nothing.
use Rattle.std.specs.Prelude.{◌≡◌, refl, Bool, not, ◌&&◌, ◌||◌, List, [], ◌∷◌, length}
use Rattle.std.proofs.Common.{ap₂, le_refl, arith}
use Rattle.ir.specs.Options.{follow_roles}
use Rattle.rules.specs.Base.{all}
use Rattle.rules.specs.Concept.{Axiom}
use Rattle.rules.specs.State.{Env}
use Rattle.rules.specs.Deck.{Known}
use Rattle.rules.specs.DeckLaws.{bounds_of, DeckIn}
use Rattle.rules.specs.Run.{env_of, first_fresh}
use Rattle.rules.specs.Invariants.{Each, AxiomIn}
use Rattle.rules.specs.Semantics.{Interpretation, with_classes, satisfied}
use Rattle.rules.specs.Statements.{satisfies_some, satisfies_all}
use Rattle.meaning.specs.Valuations.{Valuation, Agree}
use Rattle.meaning.specs.Adds.{Setting}
use Rattle.meaning.specs.InverseMap.{env_keeps}
use Rattle.meaning.specs.AxiomAgree.{satisfied_agree}

module _ (d : Known) (D : DeckIn d) (I : Interpretation) (k : Valuation) (A : Agree (first_fresh d) k I.class) where
  -- with the map of no axioms
  abbrev env : Env
  env = env_of d (record { clauses = 0; atoms = 0; deferrals = 0 }) []

  setting : Setting I (bounds_of d) env (first_fresh d)
  setting = record { classes = omega arith; individuals = λ i h. omega arith; keeps = λ r x y. env_keeps I (follow_roles d.header.options) env d.concepts [] refl refl r x y }

  axiom_same : (x : Axiom) → AxiomIn (bounds_of d) (length d.concepts) x → satisfied (with_classes I k) d.concepts x ≡ satisfied I d.concepts x
  axiom_same x h = satisfied_agree I (bounds_of d) env (first_fresh d) setting (le_refl (first_fresh d)) A d.concepts D.wf (length d.concepts) x h

  pub some_agree : (kind : Axiom → Bool) → satisfies_some kind d (with_classes I k) ≡ satisfies_some kind d I
  some_agree kind = go d.axioms D.axioms
    where
      go : (l : List Axiom) → Each (AxiomIn (bounds_of d) (length d.concepts)) l → all (λ x. not (kind x) || satisfied (with_classes I k) d.concepts x) l ≡ all (λ x. not (kind x) || satisfied I d.concepts x) l
      go [] u = refl
      go (x ∷ l) u = ap₂ (λ b c. (not (kind x) || b) && c) (axiom_same x u.0) (go l u.1)

  pub every_agree : satisfies_all d (with_classes I k) ≡ satisfies_all d I
  every_agree = go d.axioms D.axioms
    where
      go : (l : List Axiom) → Each (AxiomIn (bounds_of d) (length d.concepts)) l → all (satisfied (with_classes I k) d.concepts) l ≡ all (satisfied I d.concepts) l
      go [] u = refl
      go (x ∷ l) u = ap₂ ◌&&◌ (axiom_same x u.0) (go l u.1)
