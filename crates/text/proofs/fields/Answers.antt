use native.Mathlib.Omega.{arith}
use mathlib.Core.Path.{◌≡◌, refl, sym}
use Prim.Native.Nat.{ℕ, zero, suc}
use lib.Dec.{ltb}
use borrow.Author.Tests.{lt-ltb}
use Rattle.std.specs.Option.{unwrap_or}
use Rattle.std.specs.Bool.{then_some}
use Rattle.text.proofs.Laws.{reading_first, reading_end, reading_short, reading_bad, reading_more, reading_out}
use Rattle.text.proofs.fields.Goals as goal

pub loop-n-init : goal.loop-n-init
loop-n-init c = reading_first c.args.deck.now c.args.p c.requires

counted : (n : ℕ) → unwrap_or (then_some (ltb 0 n) n) 0 ≡ n
counted zero = refl
counted (suc n) = rw (lt-ltb 0 (suc n) (omega arith)) refl

pub returns-then-deck-at-eq10-clause-result_value : goal.returns-then-deck-at-eq10-clause-result_value
returns-then-deck-at-eq10-clause-result_value c = rw (c.then_some.ensures, counted c.loop-n.n) (reading_end c.args.deck.now c.args.p c.loop-n.n c.loop-n.invariant (omega arith) c.if-deck-at-eq10.true)

pub returns-then-len-at-lt11-clause-result_value : goal.returns-then-len-at-lt11-clause-result_value
returns-then-len-at-lt11-clause-result_value c = reading_short c.args.deck.now c.args.p c.loop-n.n c.loop-n.invariant (omega arith) c.if-deck-at-eq10.false c.if-len-at-lt11.true

pub returns-in_err-number_at-clause-result_value : goal.returns-in_err-number_at-clause-result_value
returns-in_err-number_at-clause-result_value c = rw c.from_residual.ensures (reading_bad c.args.deck.now c.args.p c.loop-n.n c.loop-n.invariant (omega arith) c.if-deck-at-eq10.false c.if-len-at-lt11.false (sym c.in_err-number_at.ensures.result_value))

pub loop-n-preserved : goal.loop-n-preserved
loop-n-preserved c = reading_more c.args.deck.now c.args.p c.loop-n.n c.loop-n.invariant (omega arith) c.if-deck-at-eq10.false c.if-len-at-lt11.false (rw c.in_ok-number_at.ensures.result_value at c.in_ok-number_at.ensures.small)

pub returns-clause-result_value : goal.returns-clause-result_value
returns-clause-result_value c = reading_out c.args.deck.now c.args.p c.loop-n.n c.loop-n.invariant (omega arith)
