use mathlib.Core.Bool.{Bool, true, false}
use mathlib.Core.List.{List}
use mathlib.Core.Path.{refl, ap, ◌∙◌}
use Prim.Native.Nat.{ℕ}
use lib.ListN.{drop}
use native.Mathlib.Omega.{arith}
use borrow.Author.Tests.{tests}
use Rattle.std.proofs.Common.{rules}
use Rattle.std.proofs.lemmas.Iterator.{YieldsList-from_range, cases_from_any, serves_from_Range}
use Rattle.words.specs.Words.{words}
use Rattle.rules.specs.Branches.{mentions}
use Rattle.branches.specs.Layout.{keep_at}
use Rattle.branches.specs.Renumbered.{run}
use Rattle.branches.specs.RangeLaws.{Passes, Fails, any_answered}
use Rattle.branches.specs.KeptLaws.{kind_small, tame_long, mentions_back, mentions_from, mentions_end}
use Rattle.branches.proofs.edges.mentions_kept.Goals as goal

pub any-requires-clause-callable : goal.any-requires-clause-callable
any-requires-clause-callable c =
    let a = c.args in
    let s = a.scratch.now in
    serves_from_Range (λ x q k. search (rules, tests)) (λ x lo hi.
    let long = tame_long s a.atoms.base a.atoms.count x c.requires.0 hi in
    let small = kind_small (words s) a.atoms.base a.atoms.count x c.requires.0 hi in
    search (rules, long, small))

pub returns : goal.returns
returns c =
    let a = c.args in
    let w = words a.scratch.now in
    let n = a.atoms.count in
    let kept = run w keep_at a.keep in
    λ l k A K.
    let f : ℕ → Bool = λ j. mentions kept (drop j l) in
    any_answered f n (λ k. mentions_back kept l k) (mentions_end kept w a.atoms.base n l A) c.any.result
    (cases_from_any _ _ c.any.result (Passes f n) (Fails f n) c.any.ensures.ran (YieldsList-from_range 0 n n refl (omega arith))
    (λ x q k h. mentions_from kept w a.atoms.base n l A x h true (λ b W. search (rules, tests, W)))
    (λ x q k. (search (rules, tests), λ h. mentions_from kept w a.atoms.base n l A x h false (λ b W. search (rules, tests, W)))))
    ∙ ap (λ (t : List ℕ). mentions t l) K.are
