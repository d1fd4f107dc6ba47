-- The bytes that were read are an input, so its listing bounds where the text ends.
use Rattle.std.proofs.Common.{arith, sym, length-take-le}
use Rattle.lister.specs.Cut.{read_end}
use Rattle.lister.specs.ReplyLaws.{lent_lengths}
use Rattle.lister.proofs.main.Goals as goal

pub list_input-m-requires-clause-scratch_value : goal.list_input-m-requires-clause-scratch_value
list_input-m-requires-clause-scratch_value c =
    let x = c.zeros-clauses in
    let y = c.zeros-atoms in
    let z = c.zeros-deferrals in
    let w = c.zeros-scratch in
    (lent_lengths x.result y.result z.result w.result x.ensures.length y.ensures.length z.ensures.length w.ensures.length, omega (arith, c.zeros-out.ensures.length))

pub slice_bounds-out-end : goal.slice_bounds-out-end
slice_bounds-out-end c =
    let p = c.list_input-m in
    let i = c.fill-n in
    omega (arith, read_end i.new.space i.result.0 i.ensures.bound p.ensures, p.auto.out, c.zeros-out.ensures.length)

pub slice_bounds-write_all-end : goal.slice_bounds-write_all-end
slice_bounds-write_all-end c =
    let p = c.list_input-m in
    let i = c.fill-n in
    sym (length-take-le p.result p.new.out (omega (arith, read_end i.new.space i.result.0 i.ensures.bound p.ensures, p.auto.out, c.zeros-out.ensures.length)))
