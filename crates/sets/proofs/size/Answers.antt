use mathlib.Core.Path.{ap, ◌∙◌}
use lib.Count.{ones}
use Rattle.states.specs.Masks.{mask_ones}
use Rattle.sets.proofs.size.Goals as goal

pub returns : goal.returns
returns c = λ n f e. ap ones e ∙ mask_ones n f
