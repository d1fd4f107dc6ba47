use native.Mathlib.Omega.{arith}
use mathlib.Core.Path.{refl, ◌∙◌}
use Rattle.words.specs.Words.{words}
use Rattle.text.specs.Rows.{row_at}
use Rattle.text.specs.RowLaws.{length_row}
use Rattle.ontology.proofs.RowLaws.{putting_next, putting_end, number_fits}
use Rattle.ontology.proofs.row.put_row.Goals as goal

pub loop-i-init : goal.loop-i-init
loop-i-init c = (refl, record { within = omega arith; stored = refl })

pub overflow_cast-x : goal.overflow_cast-x
overflow_cast-x c = omega (arith, number_fits (row_at c.args.deck.now c.args.p c.args.n) c.loop-i.i c.field-x.result c.requires.2 c.field-x.ensures)

pub loop-i-preserved : goal.loop-i-preserved
loop-i-preserved c = let l = c.loop-i in
    let r = length_row c.args.deck.now c.args.p c.args.n in
    (c.put_word.auto.s ∙ l.invariant.0, putting_next (words c.args.scratch.now) c.args.at (row_at c.args.deck.now c.args.p c.args.n) l.i (words l.scratch) l.invariant.1 (rw r c.loop-i-test.true) c.field-x.result c.field-x.ensures (words c.put_word.new.s) c.put_word.ensures)

pub shape_of-scratch : goal.shape_of-scratch
shape_of-scratch c = c.loop-i.invariant.0

pub returns : goal.returns
returns c = let r = length_row c.args.deck.now c.args.p c.args.n in
    putting_end (words c.args.scratch.now) c.args.at (row_at c.args.deck.now c.args.p c.args.n) c.loop-i.i (words c.loop-i.scratch) c.loop-i.invariant.1 (omega (arith, r, c.loop-i-test.false))
