use mathlib.Core.Path.{◌≡◌}
use mathlib.Core.List.{◌∷◌}
use lib.ListN.{drop}
use Rattle.rules.specs.Deck.{rising}
use Rattle.layouts.specs.Numbers.{numbers}
use Rattle.layouts.proofs.numbers.Numbers.rises.Given as goal

abbrev pub invariant-loop-k : goal.invariant-loop-k
invariant-loop-k l = rising (l.last ∷ drop l.k (numbers l.self)) ≡ rising (drop 2 (numbers l.self))
