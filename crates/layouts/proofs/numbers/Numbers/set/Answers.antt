use native.Mathlib.Omega.{arith}
use mathlib.Core.Path.{◌≡◌, ap, ◌∙◌}
use Prim.Native.Nat.{ℕ, ◌+◌, ◌-◌}
use lib.ListN.{length, drop}
use Rattle.rules.specs.Base.{contains}
use Rattle.states.specs.Masks.{mask_of}
use Rattle.layouts.specs.Numbers.{numbers}
use Rattle.layouts.proofs.NumberLaws.{count_is}
use Rattle.layouts.proofs.Links.{number_below, set_none, set_more}
use Rattle.layouts.proofs.numbers.Numbers.set.Goals as goal

pub loop-k-init : goal.loop-k-init
loop-k-init c =
    let r = c.args.self.now in
    let l = count_is r in
    (set_none c.args.size (numbers r) r.count (omega (arith, l)), c.requires.some)

pub with-set-requires : goal.with-set-requires
with-set-requires c =
    let r = c.args.self.now in
    let l = count_is r in
    let x = number_below (numbers r) c.args.size (c.loop-k.k - 1) c.requires.below (omega (arith, c.loop-k-test.true)) (omega (arith, l, c.loop-k-test.true, c.loop-k.auto.k)) in
    omega (arith, x, c.number.ensures, c.requires.few)

pub loop-k-preserved : goal.loop-k-preserved
loop-k-preserved c =
    let r = c.args.self.now in
    let l : length (numbers r) ≡ r.count = count_is r in
    let v = c.loop-k in
    let j = v.k - 1 in
    let e : v.k ≡ v.k - 1 + 1 = omega (arith, c.loop-k-test.true) in
    let x = number_below (numbers r) c.args.size j c.requires.below (omega (arith, c.loop-k-test.true)) (omega (arith, l, c.loop-k-test.true, v.auto.k)) in
    let s : v.set ≡ mask_of c.args.size (contains (drop (v.k - 1 + 1) (numbers r))) = v.invariant.0 ∙ ap (λ (k : ℕ). mask_of c.args.size (contains (drop k (numbers r)))) e in
    (set_more c.args.size (numbers r) j c.number.result c.with-set.result (omega (arith, l, c.loop-k-test.true, v.auto.k)) c.number.ensures (c.with-set.ensures c.args.size (contains (drop (v.k - 1 + 1) (numbers r))) (omega (arith, x, c.number.ensures)) s), omega (arith, c.loop-k-test.true))

pub returns : goal.returns
returns c =
    let v = c.loop-k in
    let e : v.k ≡ 2 = omega (arith, v.invariant.1, c.loop-k-test.false) in
    v.invariant.0 ∙ ap (λ (k : ℕ). mask_of c.args.size (contains (drop k (numbers c.args.self.now)))) e
