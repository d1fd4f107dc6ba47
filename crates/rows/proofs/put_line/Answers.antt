use mathlib.Core.Path.{◌≡◌}
use native.Mathlib.Omega.{arith}
use lib.ListN.{length}
use lib.Seq.{take-length}
use Rattle.rows.specs.RowLaws.{put_none, put_next, put_columns_end, put_line}
use Rattle.rows.proofs.put_line.Goals as goal

pub loop-number-init : goal.loop-number-init
loop-number-init c = put_none c.args.out.now c.args.at c.args.numbers.now

pub put_field-p-requires : goal.put_field-p-requires
put_field-p-requires c =
    let l = c.loop-number in
    omega (arith, put_columns_end c.args.numbers.now l.number-index (omega arith) l.invariant)

pub loop-number-preserved : goal.loop-number-preserved
loop-number-preserved c = put_next c.args.numbers.now c.loop-number.number-index c.loop-number-test.true c.loop-number.invariant c.put_field-p.ensures

pub end_line-requires : goal.end_line-requires
end_line-requires c =
    let l = c.loop-number in
    omega (arith, put_columns_end c.args.numbers.now l.number-index (omega arith) l.invariant)

pub returns : goal.returns
returns c =
    let l = c.loop-number in
    let ns = c.args.numbers.now in
    let e : l.number-index ≡ length ns = omega arith in
    put_line ns (rw (e, take-length) at l.invariant) c.end_line.ensures
