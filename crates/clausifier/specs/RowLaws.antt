-- The row of an axiom in scratch. Assumes nothing.
use Rattle.std.specs.Prelude.{◌≡◌, refl, List, ℕ, ◌+◌, ◌<◌}
use Rattle.std.proofs.Common.{arith, zero-add}
use Rattle.ir.specs.Scratch.{numbers_at}
use Rattle.ir.specs.declared.counters.Counters.{Counters}
use Rattle.rules.specs.Deck.{most_axioms}
use Rattle.rules.specs.Invariants.{AxiomIn}
use Rattle.pool.specs.Tabs.{tab_each}
use Rattle.ontology.specs.Layout.{axiom_start, axiom_count, axiom_number, axiom_at}
use Rattle.clausifier.specs.Arms.{AxiomOf}
use Rattle.ontology.specs.Rows.{row_axiom}
use Rattle.clausifier.specs.Rows.{Row}

module _ (w : List ℕ) (k : Counters) (i : ℕ) (A : AxiomOf w k i) where
  pub axiom_few : i < most_axioms
  axiom_few = omega (arith, A.among, A.axioms.held.few)

  module _ (kind start count : ℕ) (e : kind ≡ axiom_number w i 0) (p : start ≡ axiom_start w i) (q : count ≡ axiom_count w i) where
    pub row_axiom_lem : row_axiom w kind (numbers_at + start) count ≡ axiom_at w i
    row_axiom_lem = rw (e, p, q) refl

    pub axiom_row_lem : Row w k kind (numbers_at + start) count
    axiom_row_lem =
        let X = A.axioms in
        let l = A.among in
        let z : 0 + i ≡ i = zero-add i in
        let o : AxiomIn X.bounds k.concepts (axiom_at w i) = rw z at (tab_each (axiom_at w) (AxiomIn X.bounds k.concepts) 0 A.count X.inside i l) in
        record {
          bounds = X.bounds;
          classes = X.classes;
          roles = X.roles;
          above = omega arith;
          below = omega (arith, X.held.within i l);
          section = rw e (X.held.kinds i l);
          fields = rw (e, q) (X.held.fields i l);
          inside = rw row_axiom_lem o;
        }
