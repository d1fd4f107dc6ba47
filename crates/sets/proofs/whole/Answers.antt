use mathlib.Core.Path.{sym, ap, ◌∙◌}
use mathlib.Core.Bool.{true}
use Prim.Native.Nat.{ℕ, ◌-◌, ◌<◌}
use native.Mathlib.Omega.{arith}
use Rattle.states.specs.Masks.{mask_of}
use Rattle.states.specs.MaskLaws.{mask_whole, power_some}
use Rattle.sets.proofs.Laws.{shifted}
use Rattle.sets.proofs.whole.Goals as goal

pub returns-then-n-eq64 : goal.returns-then-n-eq64
returns-then-n-eq64 c = sym (ap (λ (k : ℕ). mask_of k (λ _. true)) c.if-n-eq64.true ∙ mask_whole 64)

pub overflow_sub-result : goal.overflow_sub-result
overflow_sub-result c =
    let h : c.args.n < 64 = omega arith in
    rw (shifted c.args.n h) (power_some c.args.n)

pub returns : goal.returns
returns c =
    let h : c.args.n < 64 = omega arith in
    ap (λ (k : ℕ). k - 1) (shifted c.args.n h) ∙ sym (mask_whole c.args.n)
