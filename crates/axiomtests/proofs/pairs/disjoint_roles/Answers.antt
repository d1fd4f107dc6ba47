use Rattle.std.proofs.Common.{false, rules}
use Prim.Native.Nat.{◌+◌, ◌-◌}
use native.Mathlib.Omega.{arith}
use borrow.Author.Tests.{leb-true}
use Rattle.ir.specs.Roles.{role_of}
use Rattle.rules.specs.Semantics.{related}
use Rattle.axiomtests.proofs.LineLaws.{rows_in, rows_there}
use Rattle.axiomtests.proofs.ArmLaws.{disjoint_roles_in, disjoint_roles_set}
use Rattle.axiomtests.proofs.pairs.disjoint_roles.Goals as goal

pub clashes-requires-clause-there : goal.clashes-requires-clause-there
clashes-requires-clause-there c =
    let P = c.requires.0 in
    let one = leb-true 1 c.args.line.count P.line.fields in
    rw c.of_roles-l.ensures (rows_there c.args.scratch.now P.line P.space (c.args.line.at + 1) (c.args.line.count - 1) (omega (arith, P.line.below)) c.args.x c.requires.1 (disjoint_roles_in P.line))

pub returns : goal.returns
returns c =
    let K = rw c.of_roles-l.ensures at c.clashes.ensures in
    λ d I w L. disjoint_roles_set L c.args.x _ (K false (λ a b r p. search rules) I.size (λ k. related I (role_of k) c.args.x) (rows_in L (c.args.line.at + 1) (c.args.line.count - 1) c.args.x c.requires.1 (disjoint_roles_in L)))
