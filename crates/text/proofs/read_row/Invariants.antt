use mathlib.Core.Path.{◌≡◌}
use lib.Seq.{sets}
use Rattle.words.specs.Words.{words}
use Rattle.text.specs.Rows.{row_at}
use Rattle.text.proofs.Laws.{Reading}
use Rattle.text.proofs.read_row.Given as goal

abbrev pub invariant-loop-n : goal.invariant-loop-n
invariant-loop-n l = Reading l.deck l.p l.n × (words l.t ≡ sets (words l.initial.t) l.a (row_at l.deck l.p l.n))
