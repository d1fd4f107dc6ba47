use mathlib.Core.Path.{sym}
use native.Mathlib.Omega.{arith}
use lib.Seq.{length-take-le}
use Rattle.staging.specs.BlankLaws.{blank_zeros}
use Rattle.clauses.specs.Stage.{lent}
use Rattle.clauses.proofs.main.Goals as goal

pub put_stage-m-requires : goal.put_stage-m-requires
put_stage-m-requires c =
    let x = c.zeros-clauses in
    let y = c.zeros-atoms in
    let z = c.zeros-deferrals in
    (omega (arith, c.zeros-scratch.ensures.length), blank_zeros lent x.result y.result z.result (sym x.ensures.length) (sym y.ensures.length) (sym z.ensures.length) x.ensures.zeros y.ensures.zeros z.ensures.zeros, omega (arith, c.zeros-out.ensures.length))

pub slice_bounds-write_all-end : goal.slice_bounds-write_all-end
slice_bounds-write_all-end c =
    let p = c.put_stage-m in
    sym (length-take-le p.result p.new.out (omega (arith, p.ensures.upper_bound, p.auto.out)))
