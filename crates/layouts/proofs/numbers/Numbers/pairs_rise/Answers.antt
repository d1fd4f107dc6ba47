use native.Mathlib.Omega.{arith}
use mathlib.Core.Path.{◌≡◌, sym, ap, ◌∙◌}
use mathlib.Core.List.{◌∷◌}
use Prim.Native.Nat.{ℕ, ◌+◌, ◌*◌, ◌-◌}
use lib.ListN.{drop, length, length-drop}
use Rattle.states.specs.State.{rising_pairs}
use Rattle.layouts.specs.Numbers.{numbers}
use Rattle.layouts.proofs.NumberLaws.{count_is, pairs_none, pairs_odd, pairs_first, pairs_yes, pairs_no, pairs_end}
use Rattle.layouts.proofs.numbers.Numbers.pairs_rise.Goals as goal

pub returns-then-self-le2 : goal.returns-then-self-le2
returns-then-self-le2 c =
    let r = c.args.self.now in
    let l = count_is r in
    pairs_none (numbers r) 2 (omega (arith, l, c.if-self-le2.true))

pub returns-then-self-eq1 : goal.returns-then-self-eq1
returns-then-self-eq1 c =
    let r = c.args.self.now in
    let l : length (numbers r) ≡ r.count = count_is r in
    let d : length (drop 2 (numbers r)) ≡ length (numbers r) - 2 = length-drop 2 (numbers r) in
    pairs_odd (drop 2 (numbers r)) (omega (arith, l, d, c.if-self-eq1.true, c.if-self-le2.false))

pub loop-j-init : goal.loop-j-init
loop-j-init c =
    let r = c.args.self.now in
    let l = count_is r in
    pairs_first (numbers r) 2 c.number-a.result c.number-b.result (omega (arith, l, c.if-self-eq1.false, c.if-self-le2.false)) c.number-a.ensures c.number-b.ensures

pub returns-then-not-pair_above : goal.returns-then-not-pair_above
returns-then-not-pair_above c =
    let r = c.args.self.now in
    let l = count_is r in
    let v = c.loop-j in
    pairs_no (numbers r) (2 * v.j) c.number-c.result c.number-d.result (omega (arith, l, c.loop-j-test.true)) c.number-c.ensures c.number-d.ensures v.a v.b (sym c.pair_above.ensures ∙ c.if-not-pair_above.true) ∙ v.invariant

pub loop-j-preserved : goal.loop-j-preserved
loop-j-preserved c =
    let r = c.args.self.now in
    let l = count_is r in
    let v = c.loop-j in
    let e : 2 * (v.j + 1) ≡ 2 * v.j + 2 = omega arith in
    ap (λ (k : ℕ). rising_pairs (c.number-c.result ∷ c.number-d.result ∷ drop k (numbers r))) e
    ∙ pairs_yes (numbers r) (2 * v.j) c.number-c.result c.number-d.result (omega (arith, l, c.loop-j-test.true)) c.number-c.ensures c.number-d.ensures v.a v.b (sym c.pair_above.ensures ∙ c.if-not-pair_above.false) ∙ v.invariant

pub returns : goal.returns
returns c =
    let r = c.args.self.now in
    let l = count_is r in
    let v = c.loop-j in
    pairs_end (numbers r) (2 * v.j) (omega (arith, l, c.loop-j-test.false, c.if-self-eq1.false)) v.a v.b ∙ v.invariant
