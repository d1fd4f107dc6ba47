-- The reader's answer, and the table that is back in scratch. Assumes nothing.
use mathlib.Core.Path.{◌≡◌, sym, ap, ◌∙◌}
use mathlib.Core.List.{List, ◌++◌}
use Prim.Native.Nat.{ℕ, ◌*◌, ◌≤◌}
use native.Mathlib.Omega.{arith}
use borrow.Rule.Slice.PartMut.{mid_of, put_mid, post_of, same_len_mid}
use lib.ListN.{length, take}
use lib.Seq.{length-take-le, take_at, drop_at}
use Rattle.ir.specs.Scratch.{hands_at}
use Rattle.rules.specs.Deck.{refused, read_deck}
use Rattle.deck.specs.Records.{told_of, Kept}
use Rattle.deck.specs.declared.state.State.{State}
use Rattle.ir.specs.declared.answer.Refused.{Refused}
use Rattle.std.specs.Prelude.{Result, Ok, Err}
use Rattle.ir.specs.Refusals.{refusal_number}
use Rattle.ontology.specs.Lines.{table_in, Answered, Accepted}
use Rattle.ontology.proofs.TableLaws.{part_long}

-- ---- of the deck s, with the table t
module _ (s t : List ℕ) (a : Result State Refused) (R : Answered s t a) where
  pub accepted_is : (k : State) → a ≡ Ok k → Accepted s t k
  accepted_is k e = record { read = sym (rw e at R.told); held = rw e at R.kept }

  pub refused_is : (r : Refused) → a ≡ Err r → read_deck s ≡ refused (refusal_number r.refusal) r.line
  refused_is r e = sym (rw e at R.told)

-- ---- the table t comes back into scratch
module _ (S t : List ℕ) (room : 4 * hands_at ≤ length S) (size : length t ≡ length (mid_of 204800 28672 S)) where
  abbrev S₁ : List ℕ
  S₁ = put_mid 204800 28672 S t

  pub back_room : 4 * hands_at ≤ length S₁
  back_room = rw (same_len_mid 204800 28672 S t size) room

  back_is : table_in S₁ ≡ t
  unfolding table_in
  back_is =
      ap (take 28672) (drop_at (take 204800 S) (t ++ post_of 204800 28672 S) 204800 (length-take-le 204800 S (omega arith)))
      ∙ take_at t (post_of 204800 28672 S) 28672 (size ∙ part_long S (omega arith))

  pub back_answered : (s : List ℕ) (a : Result State Refused) → told_of s t a ≡ read_deck s → Kept s t a → Answered s (table_in S₁) a
  back_answered s a told kept = rw back_is record { told = told; kept = kept }
