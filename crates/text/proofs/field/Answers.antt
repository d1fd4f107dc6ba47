use mathlib.Core.Path.{sym, ◌∙◌}
use Rattle.text.specs.RowLaws.{row_number_lem}
use Rattle.text.proofs.field.Goals as goal

pub returns : goal.returns
returns c = c.unwrap_or.ensures ∙ c.number_at.ensures.result_value ∙ sym (row_number_lem c.args.deck.now c.args.p c.args.n c.args.k c.requires.1)
