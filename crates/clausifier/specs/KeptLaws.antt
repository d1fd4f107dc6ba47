-- Axioms over a pool that has grown, after a call that left their words alone. Assumes nothing.
use Rattle.std.specs.Prelude.{List, ℕ, ◌≤◌}
use Rattle.ir.specs.declared.counters.Counters.{Counters}
use Rattle.rules.proofs.NormalizeLaws.{axioms_more}
use Rattle.ontology.specs.Layout.{axioms_of}
use Rattle.axioms.specs.Wholes.{Untouched}
use Rattle.clausifier.specs.Arms.{AxiomsOf}
use Rattle.ontology.specs.KeptAxioms.{axioms_kept, held_axioms}

pub axioms_of_kept : (w w' : List ℕ) (k k' : Counters) (n : ℕ) → Untouched w w' → k.concepts ≤ k'.concepts → AxiomsOf w k n → AxiomsOf w' k' n
axioms_of_kept w w' k k' n U h A = record {
  bounds = A.bounds;
  classes = A.classes;
  roles = A.roles;
  held = held_axioms w w' n A.held U.axioms;
  inside = rw (axioms_kept w w' n A.held U.axioms) (axioms_more A.bounds k.concepts k'.concepts (axioms_of w n) h A.inside);
}
