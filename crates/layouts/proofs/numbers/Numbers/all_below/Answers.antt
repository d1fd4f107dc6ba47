use mathlib.Core.Path.{refl, ap, ◌∙◌}
use Prim.Native.Nat.{ℕ, ◌-◌}
use lib.Dec.{ltb}
use lib.ListN.{get_or}
use borrow.Author.Tests.{tests}
use Rattle.std.proofs.Common.{rules}
use Rattle.std.proofs.lemmas.Iterator.{YieldsList-from_range}
use Rattle.std.proofs.lemmas.Iterator.Search.{all_from_yields_List}
use Rattle.layouts.specs.Numbers.{numbers}
use Rattle.layouts.proofs.NumberLaws.{count_is, all_from}
use Rattle.layouts.proofs.numbers.Numbers.all_below.Goals as goal

pub returns : goal.returns
returns c =
    let r = c.args.self.now in
    let n = r.count - 2 in
    all_from_yields_List (λ k. ltb (get_or (numbers r) k 0) c.args.size) _ _ c.all.result c.all.ensures.ran (YieldsList-from_range 2 r.count n refl refl) (λ x b q k. search (rules, tests))
    ∙ all_from (λ e. ltb e c.args.size) (numbers r) 2 n (ap (λ (m : ℕ). m - 2) (count_is r))
