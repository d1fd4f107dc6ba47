-- An entry's answer: where something is broken, the axiom's line or the clause's number, and how many elements the store shows; or
-- a refusal's number and line.
use Rattle.std.specs.Prelude.{ℕ, Result, Ok, Err}
use Prim.{Unit}
use Rattle.ir.specs.Refusals.{refusal_number}
use Rattle.ir.specs.declared.answer.Refused.{Refused as Refusing}
use Rattle.sets.specs.declared.verdict.Broken.{Broken as Breaking}

pub data Tried : Type 0 where
  Holds : Tried
  Broken : ℕ → ℕ → Tried
  Refused : ℕ → ℕ → Tried

abbrev pub told_trial : Result (Result (Unit {0}) Breaking) Refusing → Tried
told_trial (Ok (Ok u)) = Holds
told_trial (Ok (Err b)) = Broken b.at b.shown
told_trial (Err e) = Refused (refusal_number e.refusal) e.line
