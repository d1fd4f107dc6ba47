use mathlib.Core.Bool.{Bool}
use mathlib.Core.Path.{refl}
use Prim.Native.Nat.{ℕ}
use native.Mathlib.Omega.{arith}
use lib.ListN.{drop}
use borrow.Author.Tests.{tests}
use Rattle.std.proofs.Common.{rules}
use Rattle.std.proofs.lemmas.Iterator.{YieldsList-from_range, cases_from_all}
use Rattle.branches.specs.RangeLaws.{Passes, Fails, all_answered}
use Rattle.decomposition.specs.PlainLaws.{other, other_found, other_on, other_end, other_back}
use Rattle.decomposition.proofs.one.is_plain.Goals as goal

pub returns : goal.returns
returns c =
    let s = c.args.body.now in
    let n = c.atom_room.result in
    let e = c.atom_room.ensures in
    λ l R.
    let f : ℕ → Bool = λ j. other (drop j l) in
    all_answered f n (other_back l) (other_end s n e l R) c.all.result
    (cases_from_all _ _ c.all.result (Fails f n) (Passes f n) c.all.ensures.ran (YieldsList-from_range 0 n n refl (omega arith))
    (λ x q k. (search (rules, tests), λ h. other_on s n e l R x h (search (rules, tests))))
    (λ x q k h. other_found s n e l R x h (search (rules, tests))))
