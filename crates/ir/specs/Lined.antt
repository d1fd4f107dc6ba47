-- The answer of a pass over all axioms beside the counters that it leaves: finished, or a refusal's number and the axiom's line.
use Rattle.std.specs.Prelude.{ℕ, Result, Ok, Err}
use Prim.{Unit}
use Rattle.ir.specs.Refusals.{refusal_number}
use Rattle.ir.specs.declared.answer.Refused.{Refused}
use Rattle.ir.specs.declared.counters.Counters.{Counters}

pub data Lined : Type 0 where
  Finished : Counters → Lined
  Stopped : ℕ → ℕ → Lined

abbrev pub lined : Counters → Result (Unit {0}) Refused → Lined
lined k (Ok u) = Finished k
lined k (Err e) = Stopped (refusal_number e.refusal) e.line
