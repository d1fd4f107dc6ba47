use mathlib.Core.Path.{ap₂, ◌∙◌}
use lib.Bits.{bit_or}
use Rattle.states.specs.MaskLaws.{mask_with}
use Rattle.sets.proofs.Laws.{shifted}
use Rattle.sets.proofs.with.Goals as goal

pub returns : goal.returns
returns c = λ n f h e. ap₂ bit_or e (shifted c.args.x c.requires) ∙ mask_with n f c.args.x h
