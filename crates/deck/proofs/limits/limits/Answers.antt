use borrow.Author.Tests.{lt-leb}
use native.Mathlib.Omega.{arith}
use mathlib.Core.Path.{refl}
use Rattle.text.specs.RowLaws.{length_row}
use Rattle.deck.specs.Rows.{numbers}
use Rattle.deck.proofs.KindLaws.{fixed_most, list_room, list_full}
use Rattle.deck.proofs.limits.limits.Goals as goal

pub overflow_add-fixed_of : goal.overflow_add-fixed_of
overflow_add-fixed_of c = omega (arith, c.fixed_of.ensures, fixed_most c.args.kind)

pub returns-then-row-fixed_of : goal.returns-then-row-fixed_of
returns-then-row-fixed_of c = λ d K. rw (list_room (numbers c.args.row.now) c.args.kind (rw (length_row c.args.row.now.deck.now c.args.row.now.line.begin c.args.row.now.line.fields, ← c.fixed_of.ensures) c.if-row-fixed_of.true), ← c.room.ensures d K) refl

pub returns-else-row-fixed_of : goal.returns-else-row-fixed_of
returns-else-row-fixed_of c = λ d K. rw (list_full (numbers c.args.row.now) c.args.kind (rw (length_row c.args.row.now.deck.now c.args.row.now.line.begin c.args.row.now.line.fields, ← c.fixed_of.ensures) c.if-row-fixed_of.false), lt-leb _ _ c.if-row-fixed_of.false) refl
