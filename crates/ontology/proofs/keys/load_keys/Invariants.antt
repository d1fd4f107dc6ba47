use mathlib.Core.Path.{◌≡◌}
use lib.ListN.{length}
use Rattle.words.specs.Words.{words}
use Rattle.deck.specs.Records.{key_in}
use Rattle.ontology.proofs.KeyLaws.{Marks}
use Rattle.ontology.proofs.keys.load_keys.Given as goal

abbrev pub invariant-loop-i : goal.invariant-loop-i
invariant-loop-i l = (length l.scratch ≡ length l.initial.scratch) × Marks (key_in l.deck l.st.marks) l.i (words l.initial.scratch) (words l.scratch)
