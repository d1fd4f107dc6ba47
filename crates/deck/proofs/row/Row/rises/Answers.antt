use mathlib.Core.Path.{◌∙◌}
use Rattle.deck.proofs.RowLaws.{rising_start, rising_yes, rising_no, rising_end}
use Rattle.deck.proofs.row.Row.rises.Goals as goal

pub loop-k-init : goal.loop-k-init
loop-k-init c = rising_start c.args.self.now _ c.entry-last.ensures

pub returns-then-x-last : goal.returns-then-x-last
returns-then-x-last c = rising_no c.args.self.now c.loop-k.k _ c.loop-k-test.true c.field-x.ensures c.loop-k.last c.if-x-last.true ∙ c.loop-k.invariant

pub loop-k-preserved : goal.loop-k-preserved
loop-k-preserved c = rising_yes c.args.self.now c.loop-k.k _ c.loop-k-test.true c.field-x.ensures c.loop-k.last c.if-x-last.false ∙ c.loop-k.invariant

pub returns : goal.returns
returns c = rising_end c.args.self.now c.loop-k.k c.loop-k-test.false c.loop-k.last ∙ c.loop-k.invariant
