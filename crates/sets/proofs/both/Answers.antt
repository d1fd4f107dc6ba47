use mathlib.Core.Path.{ap₂, ◌∙◌}
use lib.Bits.{bit_and}
use Rattle.states.specs.Masks.{mask_and}
use Rattle.sets.proofs.both.Goals as goal

pub returns : goal.returns
returns c = λ n f g e h. ap₂ bit_and e h ∙ mask_and n f g
