use native.Mathlib.Omega.{arith}
use mathlib.Core.Path.{◌≡◌, subst}
use Prim.Native.Nat.{ℕ, ◌*◌}
use lib.ListN.{drop}
use Rattle.words.specs.Words.{words}
use Rattle.layouts.specs.Lines.{line_in}
use Rattle.layouts.specs.Drawn.{RowsAs, with_pairs}
use Rattle.layouts.proofs.Pairs.{pairing_first, first_below, second_below, pairing_more}
use Rattle.layouts.proofs.enter.enter_pairs.Goals as goal

pub loop-j-init : goal.loop-j-init
loop-j-init c = pairing_first c.args.scratch.now c.args.n c.args.role c.args.size c.requires.0 c.requires.1

pub link_pair-requires : goal.link_pair-requires
link_pair-requires c =
    let v = c.loop-j in
    let p = first_below c.args.scratch.now c.args.n c.args.role c.args.size c.requires.0 v.scratch v.j v.invariant c.loop-j-test.true c.requires.4 c.number-a.result c.number-b.result c.number-a.ensures c.number-b.ensures in
    let q = second_below c.args.scratch.now c.args.n c.args.role c.args.size c.requires.0 v.scratch v.j v.invariant c.loop-j-test.true c.requires.4 c.number-a.result c.number-b.result c.number-a.ensures c.number-b.ensures in
    (omega (arith, v.invariant.long, c.requires.0.0), c.requires.2, omega (arith, p, c.requires.3), omega (arith, q, c.requires.3))

pub loop-j-preserved : goal.loop-j-preserved
loop-j-preserved c =
    let v = c.loop-j in
    pairing_more c.args.scratch.now c.args.n c.args.role c.args.size c.requires.0 v.scratch v.j v.invariant c.loop-j-test.true c.requires.4 c.number-a.result c.number-b.result c.number-a.ensures c.number-b.ensures c.link_pair.new.scratch c.requires.3 c.link_pair.auto.scratch c.link_pair.ensures.kept_to c.link_pair.ensures.by_index

pub returns-clause-by_index : goal.returns-clause-by_index
returns-clause-by_index c =
    let v = c.loop-j in
    let e : 2 * v.j ≡ 2 = omega (arith, c.loop-j-test.false, v.invariant.some) in
    λ roles f R. subst (λ (k : ℕ). RowsAs c.args.size roles (words v.scratch) (with_pairs f c.args.role (drop k (line_in (words c.args.scratch.now) c.args.n)))) e (v.invariant.rows roles f R)
