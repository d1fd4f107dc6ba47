use Prim.Native.Nat.{◌+◌, ◌-◌}
use native.Mathlib.Omega.{arith}
use borrow.Author.Tests.{leb-true}
use Rattle.axiomtests.proofs.LineLaws.{few_elements, rows_there}
use Rattle.axiomtests.proofs.ArmLaws.{equivalent_roles_in, equivalent_roles_set}
use Rattle.axiomtests.proofs.pairs.equivalent_roles.Goals as goal

pub unlike-requires : goal.unlike-requires
unlike-requires c =
    let P = c.requires.0 in
    let one = leb-true 1 c.args.line.count P.line.fields in
    rw c.of_roles-l.ensures (rows_there c.args.scratch.now P.line P.space (c.args.line.at + 1) (c.args.line.count - 1) (omega (arith, P.line.below)) c.args.x c.requires.1 (equivalent_roles_in P.line), few_elements P.line)

pub returns : goal.returns
returns c = λ d I w L. equivalent_roles_set L c.args.x _ c.requires.1 (rw c.of_roles-l.ensures at c.unlike.ensures)
