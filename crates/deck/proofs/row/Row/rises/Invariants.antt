use mathlib.Core.Path.{◌≡◌}
use mathlib.Core.List.{◌∷◌}
use lib.ListN.{drop}
use Rattle.rules.specs.Deck.{rising}
use Rattle.deck.specs.Rows.{numbers}
use Rattle.deck.proofs.row.Row.rises.Given as goal

abbrev pub invariant-loop-k : goal.invariant-loop-k
invariant-loop-k l = rising (l.last ∷ drop l.k (numbers l.self)) ≡ rising (drop 1 (numbers l.self))
