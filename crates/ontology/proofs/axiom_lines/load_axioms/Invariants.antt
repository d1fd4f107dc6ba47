use mathlib.Core.Path.{◌≡◌}
use lib.ListN.{length}
use Rattle.words.specs.Words.{words}
use Rattle.ontology.specs.Lines.{table_of}
use Rattle.ontology.proofs.AxiomLaws.{Storing}
use Rattle.ontology.proofs.axiom_lines.load_axioms.Given as goal

abbrev pub invariant-loop-i : goal.invariant-loop-i
invariant-loop-i l = (length l.scratch ≡ length l.initial.scratch) × Storing l.deck (table_of (words l.initial.scratch)) (words l.initial.scratch) l.i l.at (words l.scratch)
