-- The answer of a step beside the counters that it leaves: what it gives, or a refusal's number.
use Rattle.std.specs.Prelude.{ℕ, Result, Ok, Err}
use Prim.{Unit}
use Rattle.ir.specs.Refusals.{refusal_number}
use Rattle.ir.specs.declared.counters.Counters.{Counters}
use Rattle.ir.specs.declared.refusal.Refusal.{Refusal}

pub data Answer : Type 0 where
  Done : Counters → ℕ → Answer
  Refused : ℕ → Answer

-- of a step that gives a number
abbrev pub answer : Counters → Result ℕ Refusal → Answer
answer k (Ok i) = Done k i
answer k (Err e) = Refused (refusal_number e)

-- of a step that gives nothing
abbrev pub done : Counters → Result (Unit {0}) Refusal → Answer
done k (Ok u) = Done k 0
done k (Err e) = Refused (refusal_number e)
