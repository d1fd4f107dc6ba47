use mathlib.Core.Path.{ap, ◌∙◌}
use mathlib.Core.Bool.{not, ◌&&◌}
use Prim.Native.Nat.{ℕ}
use lib.Dec.{eqb}
use Rattle.extents.proofs.Laws.{some_is}
use Rattle.extents.proofs.restriction.some.Goals as goal

pub returns : goal.returns
returns c = λ n f g e h. ap (λ (k : ℕ). not (eqb k 0)) (c.both.ensures n f g e h) ∙ some_is n (λ y. f y && g y)
