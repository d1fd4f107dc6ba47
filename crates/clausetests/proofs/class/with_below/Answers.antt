use mathlib.Core.Path.{◌∙◌}
use Rattle.rules.specs.Base.{contains}
use Rattle.clausetests.specs.ScanCode.{set_more, set_beyond}
use Rattle.clausetests.proofs.class.with_below.Goals as goal

pub returns-then-x-state : goal.returns-then-x-state
returns-then-x-state c = let a = c.args in λ l e. c.with.ensures a.state.now.size (contains l) c.if-x-state.true e ∙ set_more a.state.now.size l a.x

pub returns : goal.returns
returns c = let a = c.args in λ l e. e ∙ set_beyond a.state.now.size l a.x c.if-x-state.false
