use mathlib.Core.Path.{◌≡◌}
use lib.ListN.{length}
use Rattle.words.specs.Words.{words}
use Rattle.ontology.specs.Lines.{table_of, Pooled}
use Rattle.ontology.proofs.concepts.load_concepts.Given as goal

abbrev pub invariant-loop-i : goal.invariant-loop-i
invariant-loop-i l = (length l.scratch ≡ length l.initial.scratch) × Pooled l.deck (table_of (words l.initial.scratch)) l.initial.k l.i (words l.initial.scratch) (words l.scratch) l.k
