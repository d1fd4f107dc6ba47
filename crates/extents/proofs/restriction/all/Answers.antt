use mathlib.Core.Path.{ap, ◌∙◌}
use Prim.Native.Nat.{ℕ}
use lib.Dec.{eqb}
use Rattle.extents.proofs.Laws.{all_is}
use Rattle.extents.proofs.restriction.all.Goals as goal

pub returns : goal.returns
returns c = λ n f g e h. ap (λ (k : ℕ). eqb k 0) (c.without.ensures n f g e h) ∙ all_is n f g
