use native.Mathlib.Omega.{arith}
use mathlib.Core.Path.{refl, ap, ◌∙◌}
use Prim.Native.Nat.{ℕ, ◌/◌}
use Rattle.text.specs.RowLaws.{row_most}
use Rattle.deck.proofs.RowLaws.{hash_next, hash_end}
use Rattle.deck.proofs.row.Row.hash.Goals as goal

pub loop-k-init : goal.loop-k-init
loop-k-init c = (omega arith, refl)

pub overflow_add-h : goal.overflow_add-h
overflow_add-h c = let m = row_most c.args.self.now.deck.now c.args.self.now.line.begin c.args.self.now.line.fields c.loop-k.k c.loop-k-test.true in omega (arith, c.field.ensures)

pub overflow_mul-h : goal.overflow_mul-h
overflow_mul-h c = let m = row_most c.args.self.now.deck.now c.args.self.now.line.begin c.args.self.now.line.fields c.loop-k.k c.loop-k-test.true in omega (arith, c.field.ensures)

pub loop-k-preserved : goal.loop-k-preserved
loop-k-preserved c = (omega arith, hash_next c.args.self.now c.loop-k.k _ c.loop-k-test.true c.field.ensures c.loop-k.h ∙ c.loop-k.invariant.1)

pub returns : goal.returns
returns c = record {
  value = ap (λ (i : ℕ). i / 4194304) (hash_end c.args.self.now c.loop-k.k c.loop-k-test.false c.loop-k.h ∙ c.loop-k.invariant.1);
  upper_bound = omega (arith, c.loop-k.invariant.0);
}
