use mathlib.Core.Path.{ap, ◌∙◌}
use Prim.Native.Nat.{ℕ, ◌/◌, ◌%◌, ◌^◌}
use lib.Dec.{eqb}
use lib.Bits.{and_mask}
use Rattle.states.specs.Masks.{mask_at}
use Rattle.sets.proofs.Laws.{digit}
use Rattle.sets.proofs.has.Goals as goal

pub returns : goal.returns
returns c =
    let x = c.args.x in
    let first = ap (λ (k : ℕ). eqb k 1) (and_mask (c.args.m / 2 ^ x) 1) in
    record {
      value = first;
      by_index = λ n f h e. first ∙ ap (λ (k : ℕ). eqb (k / 2 ^ x % 2) 1) e ∙ ap (λ (k : ℕ). eqb k 1) (mask_at n f x h) ∙ digit (f x);
    }
