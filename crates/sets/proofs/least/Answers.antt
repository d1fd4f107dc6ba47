use mathlib.Core.Path.{◌≡◌, ap, ◌∙◌, subst}
use Prim.Native.Nat.{ℕ, ◌<◌}
use native.Mathlib.Omega.{arith}
use lib.Count.{count_trailing_zeros, trailing_le}
use Rattle.states.specs.Conditions.{rises}
use Rattle.states.specs.Masks.{mask_of}
use Rattle.states.specs.MaskLaws.{mask_least, mask_some, first_below}
use Rattle.states.specs.ChainLaws.{first_where}
use Rattle.sets.proofs.least.Goals as goal

pub overflow_cast-result : goal.overflow_cast-result
overflow_cast-result c = let h = trailing_le 64 c.args.m in record { fits = omega (arith, h) }

pub returns : goal.returns
returns c = record {
  upper_bound = trailing_le 64 c.args.m;
  by_index = λ n f h e.
      let some : 0 < mask_of n f = subst (λ (k : ℕ). 0 < k) e c.requires in
      let is : count_trailing_zeros 64 c.args.m ≡ first_where f (rises 0 n) = ap (count_trailing_zeros 64) e ∙ mask_least 64 n f h some in
      let low = first_below f 0 n (mask_some n f some) in
      (is, omega (arith, is, low));
}
