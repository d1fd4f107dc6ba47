-- The answer of partition beside the counters that it leaves: how many conjuncts are soft and hard, or a refusal's number.
use Rattle.std.specs.Prelude.{ℕ, Result, Ok, Err}
use Rattle.ir.specs.Refusals.{refusal_number}
use Rattle.ir.specs.declared.counters.Counters.{Counters}
use Rattle.ir.specs.declared.refusal.Refusal.{Refusal}
use Rattle.inclusions.specs.declared.parts.Parts as Code

pub data Parts : Type 0 where
  Found : Counters → ℕ → ℕ → Parts
  Refused : ℕ → Parts

abbrev pub parts : Counters → Result Code.Parts Refusal → Parts
parts k (Ok p) = Found k p.soft p.hard
parts k (Err e) = Refused (refusal_number e)
