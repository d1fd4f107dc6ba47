use native.Mathlib.Omega.{arith}
use mathlib.Core.Path.{refl, sym, ◌∙◌}
use Rattle.words.specs.Words.{words}
use Rattle.text.specs.Rows.{numbers}
use Rattle.text.proofs.Laws.{reading_first, reading_short, reading_bad, reading_more, reading_out, line_out, stored, told_end}
use Rattle.text.proofs.read_row.Goals as goal

pub returns-then-len-p-clause-result_value : goal.returns-then-len-p-clause-result_value
returns-then-len-p-clause-result_value c = line_out c.args.deck.now c.args.p c.if-len-p.true

pub returns-then-len-p-clause-t_after : goal.returns-then-len-p-clause-t_after
unfolding numbers
returns-then-len-p-clause-t_after c = refl

pub loop-n-init : goal.loop-n-init
unfolding numbers
loop-n-init c = (reading_first c.args.deck.now c.args.p c.if-len-p.false, refl)

pub returns-then-deck-at-eq10 : goal.returns-then-deck-at-eq10
returns-then-deck-at-eq10 c =
    let l = c.loop-n in
    let a = c.args in
    let T = told_end a.deck.now a.p _ l.n l.invariant.0 (omega arith) c.if-deck-at-eq10.true in
    rw c.ended.ensures (record { result_value = T.said; placed = T.placed; t_after = rw T.count l.invariant.1 })

pub returns-then-len-at-lt11-clause-result_value : goal.returns-then-len-at-lt11-clause-result_value
returns-then-len-at-lt11-clause-result_value c = reading_short c.args.deck.now c.args.p c.loop-n.n c.loop-n.invariant.0 (omega arith) c.if-deck-at-eq10.false c.if-len-at-lt11.true

pub returns-in_default-clause-result_value : goal.returns-in_default-clause-result_value
returns-in_default-clause-result_value c = reading_bad c.args.deck.now c.args.p c.loop-n.n c.loop-n.invariant.0 (omega arith) c.if-deck-at-eq10.false c.if-len-at-lt11.false (sym c.in_default.ensures.result_value)

pub loop-n-preserved : goal.loop-n-preserved
loop-n-preserved c =
    let l = c.loop-n in
    let a = c.args in
    let v = c.in-Some.ensures in (
      reading_more a.deck.now a.p l.n l.invariant.0 (omega arith) c.if-deck-at-eq10.false c.if-len-at-lt11.false (rw v.result_value at v.small),
      c.put.ensures ∙ rw l.invariant.1 (stored (words a.t.now) a.deck.now a.a a.p l.n _ v.result_value),
    )

pub returns-clause-result_value : goal.returns-clause-result_value
returns-clause-result_value c = reading_out c.args.deck.now c.args.p c.loop-n.n c.loop-n.invariant.0 (omega arith)
