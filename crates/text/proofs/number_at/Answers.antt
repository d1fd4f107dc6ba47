use native.Mathlib.Omega.{arith}
use mathlib.Core.Path.{◌≡◌, refl, sym, ◌∙◌}
use Prim.Native.Nat.{ℕ, ◌+◌, ◌-◌, ◌<◌}
use lib.ListN.{get_or}
use Rattle.text.proofs.Laws.{spaces_read, eight_spaces, field_more, field_broken, field_end}
use Rattle.text.proofs.number_at.Goals as goal

pub returns-then-from_le_bytes-eq-EIGHT_SPACES-clause-result_value : goal.returns-then-from_le_bytes-eq-EIGHT_SPACES-clause-result_value
returns-then-from_le_bytes-eq-EIGHT_SPACES-clause-result_value c =
    let at = c.args.at in
    let b : (i : ℕ) → get_or c.args.deck.now i 0 < 256 = λ i. omega (arith, c.type_inv.deck i) in
    c.three.ensures.result_value
    ∙ eight_spaces c.args.deck.now at c.requires
    (spaces_read _ _ _ _ _ _ _ _ (b at) (b (at + 1)) (b (at + 2)) (b (at + 3)) (b (at + 4)) (b (at + 5)) (b (at + 6)) (b (at + 7)) (sym c.from_le_bytes.ensures ∙ c.if-from_le_bytes-eq-EIGHT_SPACES.true))

pub returns-in_err-x-clause-result_value : goal.returns-in_err-x-clause-result_value
returns-in_err-x-clause-result_value c =
    let k : c.args.at + 11 - c.args.at ≡ 11 = omega arith in
    rw c.from_residual.ensures (field_broken c.args.deck.now c.args.at c.requires c.loop-b.b-index _ _ (omega arith) (rw k at c.in_err-x.ensures.result_value) c.loop-b.invariant.1 refl)

pub loop-b-preserved : goal.loop-b-preserved
loop-b-preserved c =
    let k : c.args.at + 11 - c.args.at ≡ 11 = omega arith in
    (c.in_ok-x.ensures.small, field_more c.args.deck.now c.args.at c.requires c.loop-b.b-index _ _ (omega arith) (rw k at c.in_ok-x.ensures.result_value) c.loop-b.invariant.1)

pub returns-clause-result_value : goal.returns-clause-result_value
returns-clause-result_value c = field_end c.args.deck.now c.args.at c.requires c.loop-b.b-index c.loop-b.x (omega arith) c.loop-b.invariant.1
