-- An axiom where the code has it: its kind, and the `count` words from `at` on.
use Rattle.std.specs.Prelude.{◌≡◌, true, List, ℕ, ◌+◌, ◌≤◌}
use Rattle.ir.specs.Scratch.{numbers_at, lines_at}
use Rattle.ir.specs.declared.counters.Counters.{Counters}
use Rattle.rules.specs.Deck.{most_classes, most_roles, section_of, fields_ok}
use Rattle.rules.specs.Invariants.{Bounds, AxiomIn}
use Rattle.ontology.specs.Rows.{row_axiom}

-- its line is one of its kind, and its numbers are those of a deck
pub record Row (w : List ℕ) (k : Counters) (kind at count : ℕ) : Type 0 where
  pub bounds : Bounds
  pub classes : bounds.classes ≤ most_classes
  pub roles : bounds.roles ≤ most_roles
  pub above : numbers_at ≤ at
  pub below : at + count ≤ lines_at
  pub section : section_of kind ≡ 4
  pub fields : fields_ok kind count ≡ true
  pub inside : AxiomIn bounds k.concepts (row_axiom w kind at count)
