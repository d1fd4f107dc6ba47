use Prim.Native.Nat.{◌+◌, ◌-◌}
use native.Mathlib.Omega.{arith}
use borrow.Author.Tests.{leb-true}
use Rattle.axiomtests.proofs.LineLaws.{few_elements, concepts_there}
use Rattle.axiomtests.proofs.ArmLaws.{equivalent_in, equivalent_set}
use Rattle.axiomtests.proofs.elements.equivalent.Goals as goal

pub unlike-requires : goal.unlike-requires
unlike-requires c =
    let P = c.requires in
    let one = leb-true 1 c.args.line.count P.line.fields in
    rw c.of_concepts-l.ensures (concepts_there c.args.scratch.now P.line P.space (c.args.line.at + 1) (c.args.line.count - 1) (omega (arith, P.line.below)) (equivalent_in P.line), few_elements P.line)

pub returns : goal.returns
returns c = λ w d I L. equivalent_set L _ (rw c.of_concepts-l.ensures at c.unlike.ensures)
