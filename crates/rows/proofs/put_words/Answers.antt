use mathlib.Core.Path.{◌≡◌}
use native.Mathlib.Omega.{arith}
use lib.ListN.{get_or, drop, length-drop}
use lib.Seq.{get_or-drop}
use Rattle.words.specs.Words.{words}
use Rattle.words.specs.Laws.{length_words}
use Rattle.rows.specs.RowLaws.{put_none, put_next, put_columns_end}
use Rattle.rows.proofs.put_words.Goals as goal

pub loop-i-init : goal.loop-i-init
loop-i-init c = put_none c.args.out.now c.args.at (drop c.args.from (words c.args.t.now))

pub put_field-p-requires : goal.put_field-p-requires
put_field-p-requires c =
    let a = c.args in
    let w = words a.t.now in
    omega (arith, put_columns_end (drop a.from w) c.loop-i.i (omega (arith, length-drop a.from w, length_words a.t.now)) c.loop-i.invariant)

pub loop-i-preserved : goal.loop-i-preserved
loop-i-preserved c =
    let a = c.args in
    let i = c.loop-i.i in
    let w = words a.t.now in
    let e : c.get_word.result ≡ get_or (drop a.from w) i 0 = rw get_or-drop c.get_word.ensures in
    put_next (drop a.from w) i (omega (arith, length-drop a.from w, length_words a.t.now)) c.loop-i.invariant (rw e at c.put_field-p.ensures)
