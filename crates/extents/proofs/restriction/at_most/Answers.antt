use mathlib.Core.Path.{sym, ap, ◌∙◌}
use mathlib.Core.Bool.{◌&&◌}
use Prim.Native.Nat.{ℕ}
use lib.Dec.{leb}
use Rattle.states.specs.LeastLaws.{count_rising}
use Rattle.extents.proofs.restriction.at_most.Goals as goal

pub returns : goal.returns
returns c = λ n f g e h. ap (λ (k : ℕ). leb k c.args.number) (c.size.ensures n (λ y. f y && g y) (c.both.ensures n f g e h) ∙ sym (count_rising n (λ y. f y && g y)))
