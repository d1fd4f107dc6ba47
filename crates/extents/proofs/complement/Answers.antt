use mathlib.Core.Path.{◌∙◌}
use mathlib.Core.Bool.{true}
use Rattle.extents.proofs.complement.Goals as goal

pub returns : goal.returns
returns c = λ g e. c.without.ensures c.args.n (λ _. true) g c.whole-all.ensures (c.set_of-set.ensures ∙ e)
