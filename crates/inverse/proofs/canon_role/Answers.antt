use mathlib.Core.Path.{sym, ap, ◌∙◌}
use Rattle.ir.specs.Roles.{flipped}
use Rattle.rules.specs.Inverse.{canon_role}
use Rattle.inverse.specs.Laws.{canon_inverse}
use Rattle.inverse.proofs.canon_role.Goals as goal

pub returns-in-Inverse-clause-value : goal.returns-in-Inverse-clause-value
returns-in-Inverse-clause-value c = λ m h.
    c.flip.ensures ∙ ap flipped (c.mapped-in-Inverse.ensures.value m h) ∙ sym (canon_inverse m c.in-Inverse.r) ∙ ap (canon_role m) (sym c.in-Inverse.is ∙ c.of_code.ensures)
