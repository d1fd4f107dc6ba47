-- The front of the store: the ten numbers, and the verdict.
use Rattle.std.specs.Prelude.{◌≡◌, List, ◌++◌, Result, Ok, Err, ℕ, ◌≤◌, length}
use Prim.{Unit}
use Rattle.ir.specs.declared.answer.Refused.{Refused}
use Rattle.rules.specs.Run.{Accepted, accepted, scratch_bytes}
use Rattle.statistics.specs.declared.ClauseStats.{ClauseStats}
use Rattle.clausify.specs.Reply as Replies
use Rattle.clausify.specs.Entry.{reply_of}
use Rattle.clausify.specs.Answer.{ten_of}
use Rattle.words.specs.Words.{words}
use Rattle.states.specs.Test.{store_bytes, verdict_words}
use Rattle.states.specs.Test as Test
use Rattle.sets.specs.declared.verdict.Broken.{Broken}
use Rattle.sets.specs.Verdicts.{verdict_in}
use Rattle.trials.specs.Judged.{Judgement, given, denied, said_in}

-- ten numbers, two, and at most 129 elements
abbrev pub front_words : ℕ
front_words = 141

abbrev pub most_shown : ℕ
most_shown = 129

-- what is shown has its words
abbrev pub Shows : Result (Unit {0}) Broken → Type 0
Shows (Ok _) = Unit {0}
Shows (Err b) = b.shown ≤ most_shown

-- of scratch's words v
abbrev pub front_of : List ℕ → ClauseStats → ℕ → ℕ → Result (Unit {0}) Broken → List ℕ
front_of v s fresh_ids visits x = ten_of s fresh_ids visits ++ verdict_words (verdict_in v x)

-- a verdict shows at most so many elements
abbrev pub ShortVerdict : Test.Verdict → Type 0
ShortVerdict Test.holds = Unit {0}
ShortVerdict (Test.broken n l) = length l ≤ most_shown

abbrev pub Short : Judgement → Type 0
Short (given v) = ShortVerdict v
Short (denied n line) = Unit {0}

-- the run's reply
abbrev pub Counted : Accepted → ClauseStats → ℕ → ℕ → Type 0
Counted a s fresh_ids visits = reply_of (accepted a) ≡ Replies.Accepted s fresh_ids visits

pub record ReportThere (store scratch : List ℕ) (x : Result (Result (Unit {0}) Broken) Refused) (s : ClauseStats) (fresh_ids visits : ℕ) : Type 0 where
  pub run : Accepted
  pub counted : Counted run s fresh_ids visits
  pub short : Short (said_in (words scratch) x)
  pub room : store_bytes ≤ length store
  pub space : scratch_bytes ≤ length scratch
