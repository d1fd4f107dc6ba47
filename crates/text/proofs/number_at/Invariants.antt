use mathlib.Core.Path.{◌≡◌}
use lib.ListN.{drop}
use Rattle.std.specs.Prelude.{Some}
use Rattle.rules.specs.Text.{columns, spaces}
use Rattle.text.specs.Rows.{SmallNumber, columns_of}
use Rattle.text.proofs.Laws.{field_at}
use Rattle.text.proofs.number_at.Given as goal

abbrev pub invariant-loop-b : goal.invariant-loop-b
invariant-loop-b l = SmallNumber l.x × (columns (columns_of (Some l.x)) (drop l.b-index (field_at l.deck l.at)) ≡ columns spaces (field_at l.deck l.at))
