use mathlib.Core.Bool.{true, false}
use mathlib.Core.Path.{refl}
use Prim.Native.Nat.{◌+◌}
use native.Mathlib.Omega.{arith}
use lib.ListN.{length}
use borrow.Author.Tests.{tests}
use Rattle.std.proofs.Common.{rules}
use Rattle.std.proofs.lemmas.Iterator.{YieldsList-from_range, cases_from_any, serves_from_Range}
use Rattle.words.specs.Words.{words}
use Rattle.words.specs.Laws.{length_words}
use Rattle.tables.specs.AtomLaws.{no_atom}
use Rattle.contraction.specs.InHands.{hand_at}
use Rattle.contraction.specs.SearchLaws.{Tested}
use Rattle.contraction.specs.TrivialLaws.{body_at_lem, head_at_lem, head_there, always, trivial_any}
use Rattle.contraction.proofs.contract.is_trivial.Goals as goal

pub any-requires-clause-callable : goal.any-requires-clause-callable
any-requires-clause-callable c =
    let a = c.args in
    let w = words a.scratch.now in
    let short = c.requires.0.short in
    serves_from_Range (λ x q k. search (rules, tests)) (λ i lo hi.
    let there = head_there w a.hand.body a.hand.head i c.requires.0 (omega (arith, length_words a.scratch.now, c.requires.1)) lo hi in
    search (rules, tests, there, short))

pub returns : goal.returns
returns c =
    let a = c.args in
    let w = words a.scratch.now in
    let first = hand_at + a.hand.body in
    λ set x F X. trivial_any set x first c.any.result
    (cases_from_any _ _ c.any.result (Tested (always set x) x.head no_atom first true) (Tested (always set x) x.head no_atom first false) c.any.ensures.ran (YieldsList-from_range first (first + a.hand.head) (length x.head) refl (omega (arith, X.head)))
    (λ i q t l h. let H = head_at_lem w a.hand.body a.hand.head x X (omega (arith, length_words a.scratch.now, c.requires.1)) i l (omega (arith, h, X.head)) in let B = body_at_lem w a.hand.body a.hand.head x X (omega (arith, length_words a.scratch.now, c.requires.1)) in search (rules, tests, F, H, B, X))
    (λ i q t. (search (rules, tests), λ l h. let H = head_at_lem w a.hand.body a.hand.head x X (omega (arith, length_words a.scratch.now, c.requires.1)) i l (omega (arith, h, X.head)) in let B = body_at_lem w a.hand.body a.hand.head x X (omega (arith, length_words a.scratch.now, c.requires.1)) in search (rules, tests, F, H, B, X))))
