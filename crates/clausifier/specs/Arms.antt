-- Axioms whose numbers name concepts, classes and roles of their deck, and what is promised of one.
use Rattle.std.specs.Prelude.{◌≡◌, true, List, ℕ, ◌<◌, ◌≤◌}
use Rattle.ir.specs.declared.counters.Counters.{Counters}
use Rattle.ir.specs.Answer.{Answer}
use Rattle.rules.specs.Concept.{Axiom}
use Rattle.rules.specs.Axioms.{clausify_axiom}
use Rattle.rules.specs.Handed.{names_limits}
use Rattle.rules.specs.Deck.{most_classes, most_roles}
use Rattle.rules.specs.Invariants.{Each, Bounds, AxiomIn}
use Rattle.ontology.specs.Layout.{axioms_of, AxiomsHeld}
use Rattle.hands.specs.Hands.{Four}
use Rattle.axioms.specs.Wholes.{Clausified, Queued}

pub record AxiomsOf (w : List ℕ) (k : Counters) (n : ℕ) : Type 0 where
  pub bounds : Bounds
  pub classes : bounds.classes ≤ most_classes
  pub roles : bounds.roles ≤ most_roles
  pub held : AxiomsHeld w n
  pub inside : Each (AxiomIn bounds k.concepts) (axioms_of w n)

-- axiom i of some such
pub record AxiomOf (w : List ℕ) (k : Counters) (i : ℕ) : Type 0 where
  pub count : ℕ
  pub axioms : AxiomsOf w k count
  pub among : i < count

-- a call did what the axiom's rule does; and where that may name limits, those that wait stand in scratch
pub record Axiomed (a : Axiom) (k : Counters) (x y : Four) (r : Answer) : Type 0 where
  pub did : Clausified (λ env. clausify_axiom env a) k x y r
  pub queued : names_limits a ≡ true → Queued (λ env. clausify_axiom env a) k x y
