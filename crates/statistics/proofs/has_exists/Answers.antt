use mathlib.Core.Bool.{Bool}
use mathlib.Core.Path.{refl}
use Prim.Native.Nat.{ℕ}
use native.Mathlib.Omega.{arith}
use lib.ListN.{drop}
use borrow.Author.Tests.{tests}
use Rattle.std.proofs.Common.{rules}
use Rattle.std.proofs.lemmas.Iterator.{YieldsList-from_range, cases_from_any}
use Rattle.rules.specs.Base.{any}
use Rattle.rules.specs.Stats.{is_exists}
use Rattle.branches.specs.RangeLaws.{Passes, Fails, any_answered}
use Rattle.statistics.specs.ExistsLaws.{exists_found, exists_on, exists_out, exists_back}
use Rattle.statistics.proofs.has_exists.Goals as goal

pub returns : goal.returns
returns c =
    let n = c.atom_room.result in
    let e = c.atom_room.ensures in
    λ l R.
    let f : ℕ → Bool = λ j. any is_exists (drop j l) in
    any_answered f n (exists_back l) (exists_out _ n n e l R (omega arith)) c.any.result
    (cases_from_any _ _ c.any.result (Passes f n) (Fails f n) c.any.ensures.ran (YieldsList-from_range 0 n n refl (omega arith))
    (λ x q k h. exists_found _ n x e l R h (search (rules, tests)))
    (λ x q k. (search (rules, tests), λ h. exists_on _ n x e l R h (search (rules, tests)))))
