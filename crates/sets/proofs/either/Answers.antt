use mathlib.Core.Path.{ap₂, ◌∙◌}
use lib.Bits.{bit_or}
use Rattle.states.specs.Masks.{mask_or}
use Rattle.sets.proofs.either.Goals as goal

pub returns : goal.returns
returns c = λ n f g e h. ap₂ bit_or e h ∙ mask_or n f g
