use native.Mathlib.Omega.{arith}
use mathlib.Core.Path.{◌∙◌}
use Rattle.layouts.specs.Numbers.{numbers}
use Rattle.layouts.proofs.NumberLaws.{count_is, rising_none, rising_first, rising_yes, rising_no, rising_end}
use Rattle.layouts.proofs.numbers.Numbers.rises.Goals as goal

pub returns-then-self-le2 : goal.returns-then-self-le2
returns-then-self-le2 c =
    let r = c.args.self.now in
    let l = count_is r in
    rising_none (numbers r) 2 (omega (arith, l, c.if-self-le2.true))

pub loop-k-init : goal.loop-k-init
loop-k-init c =
    let r = c.args.self.now in
    let l = count_is r in
    rising_first (numbers r) 2 c.number-last.result (omega (arith, l, c.if-self-le2.false)) c.number-last.ensures

pub returns-then-x-last : goal.returns-then-x-last
returns-then-x-last c =
    let r = c.args.self.now in
    let l = count_is r in
    rising_no (numbers r) c.loop-k.k c.number-x.result (omega (arith, l, c.loop-k-test.true)) c.number-x.ensures c.loop-k.last c.if-x-last.true ∙ c.loop-k.invariant

pub loop-k-preserved : goal.loop-k-preserved
loop-k-preserved c =
    let r = c.args.self.now in
    let l = count_is r in
    rising_yes (numbers r) c.loop-k.k c.number-x.result (omega (arith, l, c.loop-k-test.true)) c.number-x.ensures c.loop-k.last c.if-x-last.false ∙ c.loop-k.invariant

pub returns : goal.returns
returns c =
    let r = c.args.self.now in
    let l = count_is r in
    rising_end (numbers r) c.loop-k.k (omega (arith, l, c.loop-k-test.false)) c.loop-k.last ∙ c.loop-k.invariant
