use mathlib.Core.Path.{ap}
use Rattle.clausetests.specs.Fitting.{is_head}
use Rattle.clausetests.proofs.FittingLaws.{as_head, as_body}
use Rattle.clausetests.proofs.fitting.allowed.Goals as goal

pub returns-in-Head : goal.returns-in-Head
returns-in-Head c = λ n f g ea em. as_head n f g (is_head c.args.side) _ (ap is_head c.in-Head.is) (c.without.ensures n f g ea em)

pub returns-in-Body : goal.returns-in-Body
returns-in-Body c = λ n f g ea em. as_body n f g (is_head c.args.side) _ (ap is_head c.in-Body.is) (c.both.ensures n f g ea em)
