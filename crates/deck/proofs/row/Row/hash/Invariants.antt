use mathlib.Core.Path.{◌≡◌}
use Prim.Native.Nat.{◌<◌}
use lib.ListN.{drop}
use Rattle.deck.specs.Index.{hash_by}
use Rattle.deck.specs.Rows.{numbers}
use Rattle.deck.proofs.row.Row.hash.Given as goal

abbrev pub invariant-loop-k : goal.invariant-loop-k
invariant-loop-k l = (l.h < 4294967296) × (hash_by l.h (drop l.k (numbers l.self)) ≡ hash_by 0 (numbers l.self))
