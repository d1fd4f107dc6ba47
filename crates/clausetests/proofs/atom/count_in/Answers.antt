use mathlib.Core.Bool.{◌&&◌}
use mathlib.Core.Path.{◌∙◌}
use Rattle.clausetests.proofs.atom.count_in.Goals as goal

pub returns : goal.returns
returns c =
    let a = c.args in
    λ n R f h q e. c.size.ensures n (λ y. R a.x y && f y) (c.both.ensures n (R a.x) f (c.row.ensures ∙ q a.x h) e)
