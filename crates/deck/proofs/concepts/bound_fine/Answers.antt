use borrow.Author.Tests.{eq-eqb, ne_eqb}
use mathlib.Core.Path.{refl}
use Rattle.deck.proofs.ConceptLaws.{line_bound}
use Rattle.deck.proofs.concepts.bound_fine.Goals as goal

pub returns-then-line-ne12 : goal.returns-then-line-ne12
returns-then-line-ne12 c = rw (line_bound c.args.line.now.row.deck.now c.args.line.now.row.line.begin c.args.line.now.row.line.fields c.args.line.now.kind c.args.line.now.is_line, ne_eqb _ _ c.if-line-ne12.true) refl

pub returns-else-line-ne12 : goal.returns-else-line-ne12
returns-else-line-ne12 c = rw (line_bound c.args.line.now.row.deck.now c.args.line.now.row.line.begin c.args.line.now.row.line.fields c.args.line.now.kind c.args.line.now.is_line, eq-eqb _ _ c.if-line-ne12.false, ← c.below.ensures) refl
