-- The reply of a run, told with a state: what the entries' parts ask and promise.
use Rattle.std.specs.Prelude.{◌≡◌, List, ℕ, ◌≤◌, length, get_or, replicate}
use Prim.{Unit}
use Rattle.words.specs.Words.{words}
use Rattle.rules.specs.Deck.{Known, fine, read_deck}
use Rattle.rules.specs.Run.{Lengths, Accepted, accepted, Run, clause_table, atom_table, scratch_bytes}
use Rattle.statistics.specs.declared.ClauseStats.{ClauseStats}
use Rattle.clausify.specs.Reply.{Reply}
use Rattle.clausify.specs.Reply as Replies
use Rattle.states.specs.State.{read_state}
use Rattle.states.specs.Test.{Test, Tested, Lent, store_bytes, store_table}
use Rattle.trials.specs.Tried.{Tried}
use Rattle.trials.specs.Tried as Said
use Rattle.trials.specs.Judged.{judged_of, tested_as}
use Rattle.trials.specs.Entry.{tried_of}
use Rattle.trials.specs.Stored.{Counted}

-- a run of lent tables of lengths t that was accepted
pub record Ran (deck : List ℕ) (t : Lengths) (a : Accepted) (s : ClauseStats) (fresh_ids visits : ℕ) : Type 0 where
  pub known : Known
  pub read : read_deck deck ≡ fine known
  pub is : Run deck t ≡ accepted a
  pub counted : Counted a s fresh_ids visits

pub record RanThere (deck clauses atoms store scratch : List ℕ) (s : ClauseStats) (fresh_ids visits : ℕ) : Type 0 where
  pub lengths : Lengths
  pub run : Accepted
  pub ran : Ran deck lengths run s fresh_ids visits
  pub clausal : clauses ≡ clause_table lengths (accepted run)
  pub atomic : atoms ≡ atom_table lengths (accepted run)
  pub room : store_bytes ≤ length store
  pub space : scratch_bytes ≤ length scratch

abbrev pub TellThere : (deck clauses atoms store scratch : List ℕ) → Reply → Type 0
TellThere deck c a store scratch (Replies.Accepted s fresh_ids visits) = RanThere deck c a store scratch s fresh_ids visits
TellThere deck c a store scratch (Replies.Refused n line) = Unit {0}

-- the test's answer for that run
abbrev pub tested_on : Test → Known → Accepted → List ℕ → Tested
tested_on k d a state = tested_as a (judged_of k d a.clauses (read_state d a.fresh_ids state))

-- the store's front has the reply's total, its deferred and the fresh ids
pub record Numbered (w : List ℕ) (s : ClauseStats) (fresh_ids : ℕ) : Type 0 where
  pub total : get_or w 0 0 ≡ s.total
  pub fresh : get_or w 8 0 ≡ fresh_ids
  pub deferred : get_or w 5 0 ≡ s.deferred

abbrev pub NumberedAs : List ℕ → ClauseStats → ℕ → Tried → Type 0
NumberedAs w s fresh_ids Said.Holds = Numbered w s fresh_ids
NumberedAs w s fresh_ids (Said.Broken n k) = Numbered w s fresh_ids
NumberedAs w s fresh_ids (Said.Refused n line) = Unit {0}

pub record ToldAs (o : Tested) (s : ClauseStats) (fresh_ids n : ℕ) (store : List ℕ) (r : Tried) : Type 0 where
  pub reply : r ≡ tried_of o
  pub stored : (t : Lent) → t.store ≡ n → store ≡ store_table t o
  pub numbered : NumberedAs (words store) s fresh_ids r

-- n bytes of store were lent
abbrev pub TellsAs : Test → (deck state clauses atoms : List ℕ) → ℕ → Reply → List ℕ → Tried → Type 0
TellsAs k deck state c a n (Replies.Accepted s fresh_ids visits) store r = (t : Lengths) (x : Accepted) (R : Ran deck t x s fresh_ids visits) → c ≡ clause_table t (accepted x) → a ≡ atom_table t (accepted x)
    → ToldAs (tested_on k R.known x state) s fresh_ids n store r
TellsAs k deck state c a n (Replies.Refused m line) store r = (r ≡ Said.Refused m line) × (store ≡ replicate n 0)

-- the run's tables: kept with a verdict, zeros with a refusal
abbrev pub kept_of : Tried → List ℕ → List ℕ
kept_of Said.Holds c = c
kept_of (Said.Broken n k) c = c
kept_of (Said.Refused n line) c = replicate (length c) 0
