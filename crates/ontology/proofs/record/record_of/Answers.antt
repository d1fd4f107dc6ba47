use mathlib.Core.Path.{refl, ◌∙◌}
use Rattle.ontology.proofs.record.record_of.Goals as goal

pub returns : goal.returns
returns c = c.record_for.ensures ∙ rw (c.get_word-c.ensures, c.get_word-b.ensures, c.get_word-a.ensures, c.get_word-kind.ensures) refl
