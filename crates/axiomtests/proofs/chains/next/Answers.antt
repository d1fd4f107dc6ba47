use mathlib.Core.Bool.{not, ◌&&◌}
use Prim.Native.Nat.{suc, ◌-◌}
use native.Mathlib.Omega.{arith}
use Rattle.words.specs.Words.{words}
use Rattle.ir.specs.Roles.{role_of}
use Rattle.rules.specs.Semantics.{related}
use Rattle.states.specs.HoldsLaws.{onward}
use Rattle.axiomtests.specs.Chains.{part_code, last_parts}
use Rattle.axiomtests.proofs.PathLaws.{next_mask, next_positive}
use Rattle.axiomtests.proofs.chains.next.Goals as goal

pub row-requires : goal.row-requires
row-requires c =
    let C = c.requires.chain in
    (omega (arith, c.part-code.ensures, C.codes (c.args.c.parts - 1 - c.args.k) (omega (arith, c.requires.among))), omega (arith, c.requires.element, C.few), C.space)

pub least-requires : goal.least-requires
least-requires c =
    let P = c.requires in
    next_positive (words c.args.scratch.now) c.args.c.size c.args.c c.args.x c.args.k c.args.y _ _ _ _ P.among P.element c.part-code.ensures c.row.ensures c.get_set-left.ensures c.both.ensures P.chain.meant P.chain.chained P.left P.breaks

pub returns : goal.returns
returns c =
    let P = c.requires in
    let a = c.args.c in
    let v = words c.args.scratch.now in
    λ I C L. c.least.ensures.by_index I.size (λ w. related I (role_of (part_code v a (a.parts - suc c.args.k))) c.args.y w && not (onward I (role_of a.sup) c.args.x (last_parts v a c.args.k) w)) (omega (arith, C.sized, P.chain.few))
    (next_mask v c.args.c.size a c.args.x c.args.k c.args.y _ _ _ _ P.among P.element c.part-code.ensures c.row.ensures c.get_set-left.ensures c.both.ensures I C L)
