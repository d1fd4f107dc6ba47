use Rattle.text.specs.RowLaws.{row_beyond}
use Rattle.text.proofs.entry.Goals as goal

pub returns : goal.returns
returns c = row_beyond c.args.deck.now c.args.p c.args.n c.args.k c.if-k-n.false
