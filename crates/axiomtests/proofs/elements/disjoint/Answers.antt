use Rattle.std.proofs.Common.{true, rules}
use Prim.Native.Nat.{◌+◌, ◌-◌}
use native.Mathlib.Omega.{arith}
use borrow.Author.Tests.{leb-true}
use Rattle.rules.specs.Semantics.{means}
use Rattle.axiomtests.proofs.LineLaws.{concepts_of, concepts_there}
use Rattle.axiomtests.proofs.ArmLaws.{disjoint_in, disjoint_set}
use Rattle.axiomtests.proofs.elements.disjoint.Goals as goal

pub clashes-requires-clause-there : goal.clashes-requires-clause-there
clashes-requires-clause-there c =
    let P = c.requires in
    let one = leb-true 1 c.args.line.count P.line.fields in
    rw c.of_concepts-l.ensures (concepts_there c.args.scratch.now P.line P.space (c.args.line.at + 1) (c.args.line.count - 1) (omega (arith, P.line.below)) (disjoint_in P.line))

pub returns : goal.returns
returns c =
    let K = rw c.of_concepts-l.ensures at c.clashes.ensures in
    λ w d I L. disjoint_set L _ (K true (λ a b r p. search rules) I.size (means I d.concepts) (concepts_of L (c.args.line.at + 1) (c.args.line.count - 1) (disjoint_in L)))
