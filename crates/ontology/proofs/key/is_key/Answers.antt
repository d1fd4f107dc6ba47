use mathlib.Core.Path.{refl}
use Rattle.ontology.proofs.key.is_key.Goals as goal

pub returns : goal.returns
returns c = rw c.get_word.ensures refl
