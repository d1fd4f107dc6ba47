use mathlib.Core.Bool.{Bool}
use mathlib.Core.Path.{refl}
use Prim.Native.Nat.{ℕ}
use native.Mathlib.Omega.{arith}
use borrow.Author.Tests.{tests}
use Rattle.std.proofs.Common.{rules}
use Rattle.std.proofs.lemmas.Iterator.{YieldsList-from_range, cases_from_any}
use Rattle.words.specs.Words.{words}
use Rattle.branches.specs.RangeLaws.{Passes, Fails, any_answered}
use Rattle.trees.specs.TreeLaws.{loose, loose_here, loose_on, loose_back, loose_stop}
use Rattle.trees.proofs.tree.any_disconnected.Goals as goal

pub returns : goal.returns
returns c =
    let a = c.args in
    let w = words a.scratch.now in
    let n = a.atoms.count in
    λ l A.
    let f : ℕ → Bool = loose w a.placed.now a.atoms.base n c.requires.1 l A in
    any_answered f n (loose_back w a.placed.now a.atoms.base n c.requires.1 l A) (loose_stop w a.placed.now a.atoms.base n c.requires.1 l A) c.any.result
    (cases_from_any _ _ c.any.result (Passes f n) (Fails f n) c.any.ensures.ran (YieldsList-from_range 0 n n refl (omega arith))
    (λ x q k h. loose_here w a.placed.now a.atoms.base n c.requires.1 l A x h (search (rules, tests)))
    (λ x q k. (search (rules, tests), λ h. loose_on w a.placed.now a.atoms.base n c.requires.1 l A x h (search (rules, tests)))))
