use mathlib.Core.Path.{◌∙◌}
use Rattle.reflexive.specs.IdLaws.{answered_id}
use Rattle.reflexive.proofs.ids.canon_id.Goals as goal

pub returns : goal.returns
returns c = c.role_id.ensures ∙ answered_id _ _ _ c.requires.0 c.canon_role.ensures.value
