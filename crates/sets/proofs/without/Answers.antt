use mathlib.Core.Path.{ap, ap₂, ◌∙◌}
use Prim.Native.Nat.{ℕ, ◌-◌}
use lib.Bits.{bit_and, and_le_l}
use Rattle.states.specs.Masks.{mask_of, mask_and}
use Rattle.states.specs.MaskLaws.{mask_without}
use Rattle.sets.proofs.without.Goals as goal

pub overflow_sub-result : goal.overflow_sub-result
overflow_sub-result c = and_le_l c.args.a c.args.b

pub returns : goal.returns
returns c = λ n f g e h. ap₂ (λ (x y : ℕ). x - bit_and x y) e h ∙ ap (λ (k : ℕ). mask_of n f - k) (mask_and n f g) ∙ mask_without n f g
