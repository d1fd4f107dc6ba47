use mathlib.Core.Path.{◌≡◌}
use Prim.Native.Nat.{◌≤◌}
use lib.ListN.{drop}
use Rattle.rules.specs.Base.{contains}
use Rattle.states.specs.Masks.{mask_of}
use Rattle.layouts.specs.Numbers.{numbers}
use Rattle.layouts.proofs.numbers.Numbers.set.Given as goal

abbrev pub invariant-loop-k : goal.invariant-loop-k
invariant-loop-k l = (l.set ≡ mask_of l.size (contains (drop l.k (numbers l.self)))) × (2 ≤ l.k)
