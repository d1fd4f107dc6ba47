-- The answer of clausify: the number of clauses; or a refusal's number and line.
use Rattle.std.specs.Prelude.{ℕ, Result, Ok, Err}
use Rattle.ir.specs.Refusals.{refusal_number}
use Rattle.ir.specs.declared.answer.Refused.{Refused as Refusing}

pub data Clausified : Type 0 where
  Accepted : ℕ → Clausified
  Refused : ℕ → ℕ → Clausified

abbrev pub told_count : Result ℕ Refusing → Clausified
told_count (Ok n) = Accepted n
told_count (Err e) = Refused (refusal_number e.refusal) e.line
