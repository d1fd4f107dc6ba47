-- The answer of encode_antecedent beside the counters that it leaves: how many alternatives and the longest one's length, the Rust's
-- None, or a refusal's number.
use Rattle.std.specs.Prelude.{ℕ, Option, Some, None, Result, Ok, Err}
use Rattle.ir.specs.Refusals.{refusal_number}
use Rattle.ir.specs.declared.answer.Alternatives.{Alternatives}
use Rattle.ir.specs.declared.counters.Counters.{Counters}
use Rattle.ir.specs.declared.refusal.Refusal.{Refusal}

pub data Encoded : Type 0 where
  Found : Counters → ℕ → ℕ → Encoded
  Unsupported : Counters → Encoded
  Refused : ℕ → Encoded

abbrev pub encoded : Counters → Result (Option Alternatives) Refusal → Encoded
encoded k (Ok (Some a)) = Found k a.count a.longest
encoded k (Ok None) = Unsupported k
encoded k (Err e) = Refused (refusal_number e)
