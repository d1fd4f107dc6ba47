use mathlib.Core.Path.{◌≡◌}
use Prim.Native.Nat.{◌≤◌, ◌<◌}
use lib.ListN.{drop}
use Rattle.words.specs.Words.{words}
use Rattle.rules.specs.Deck.{deepest}
use Rattle.rules.specs.Invariants.{Each}
use Rattle.deck.specs.Records.{depths_in}
use Rattle.deck.specs.Rows.{numbers}
use Rattle.deck.proofs.concepts.deepest_of.Given as goal

abbrev pub invariant-loop-k : goal.invariant-loop-k
invariant-loop-k l = ((l.deepest ≤ 64) × Each (λ x. x < l.concepts) (drop l.k (numbers l.row))) × (deepest (depths_in (words l.t) l.concepts) l.deepest (drop l.k (numbers l.row)) ≡ deepest (depths_in (words l.t) l.concepts) 0 (drop l.from (numbers l.row)))
