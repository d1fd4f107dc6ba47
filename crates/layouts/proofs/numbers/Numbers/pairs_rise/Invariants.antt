use mathlib.Core.Path.{◌≡◌}
use mathlib.Core.List.{◌∷◌}
use Prim.Native.Nat.{◌*◌}
use lib.ListN.{drop}
use Rattle.states.specs.State.{rising_pairs}
use Rattle.layouts.specs.Numbers.{numbers}
use Rattle.layouts.proofs.numbers.Numbers.pairs_rise.Given as goal

abbrev pub invariant-loop-j : goal.invariant-loop-j
invariant-loop-j l = rising_pairs (l.a ∷ l.b ∷ drop (2 * l.j) (numbers l.self)) ≡ rising_pairs (drop 2 (numbers l.self))
