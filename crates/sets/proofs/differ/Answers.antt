use mathlib.Core.Path.{ap₂, ◌∙◌}
use lib.Bits.{bit_xor}
use Rattle.states.specs.MaskLaws.{mask_differ}
use Rattle.sets.proofs.differ.Goals as goal

pub returns : goal.returns
returns c = λ n f g e h. ap₂ bit_xor e h ∙ mask_differ n f g
