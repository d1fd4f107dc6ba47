-- The answer of clausify_with_stats: the statistics, fresh ids and visits; or a refusal's number and line.
use Rattle.std.specs.Prelude.{ℕ, Result, Ok, Err}
use Rattle.ir.specs.Refusals.{refusal_number}
use Rattle.ir.specs.declared.answer.Refused.{Refused as Refusing}
use Rattle.statistics.specs.declared.ClauseStats.{ClauseStats}
use Rattle.clausify.specs.declared.numbers.Numbers.{Numbers}

pub data Reply : Type 0 where
  Accepted : ClauseStats → ℕ → ℕ → Reply
  Refused : ℕ → ℕ → Reply

abbrev pub told_reply : Result Numbers Refusing → Reply
told_reply (Ok n) = Accepted n.stats n.fresh_ids n.visits
told_reply (Err e) = Refused (refusal_number e.refusal) e.line
