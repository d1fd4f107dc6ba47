use mathlib.Core.Path.{sym}
use native.Mathlib.Omega.{arith}
use lib.Seq.{length-take-le}
use Rattle.normalforms.proofs.main.Goals as goal

pub slice_bounds-write_all-end : goal.slice_bounds-write_all-end
slice_bounds-write_all-end c =
    let p = c.put_forms-m in
    sym (length-take-le p.result p.new.out (omega (arith, p.ensures.upper_bound, p.auto.out)))
