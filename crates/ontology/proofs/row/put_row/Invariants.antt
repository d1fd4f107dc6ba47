use mathlib.Core.Path.{◌≡◌}
use lib.ListN.{length}
use Rattle.words.specs.Words.{words}
use Rattle.text.specs.Rows.{row_at}
use Rattle.ontology.proofs.RowLaws.{Putting}
use Rattle.ontology.proofs.row.put_row.Given as goal

abbrev pub invariant-loop-i : goal.invariant-loop-i
invariant-loop-i l = (length l.scratch ≡ length l.initial.scratch) × Putting (words l.initial.scratch) l.at (row_at l.deck l.p l.n) l.i (words l.scratch)
