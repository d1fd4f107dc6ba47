-- The parts of the entries: what they ask and promise of the tables, and a reply's count.
use Rattle.std.specs.Prelude.{◌≡◌, Bool, true, false, List, [], ◌∷◌, ℕ, length, replicate}
use Rattle.ir.specs.declared.counters.Counters.{Counters}
use Rattle.rules.specs.State.{Rooms}
use Rattle.rules.specs.Run.{Lengths, Accepted, Outcome, refused, clause_table, atom_table, deferral_table}
use Rattle.statistics.specs.declared.ClauseStats.{ClauseStats}
use Rattle.clausify.specs.Reply.{Reply}
use Rattle.clausify.specs.Reply as Replies
use Rattle.clausify.specs.Clausified.{Clausified}
use Rattle.clausify.specs.Clausified as Counts
use Rattle.run.specs.Ran.{Left}
use Rattle.clausify.specs.Entry.{reply_of}

-- an accepted run left its records in these words
pub record LeftThere (c a : List ℕ) (k : Counters) (first decomposed : ℕ) : Type 0 where
  pub rooms : Rooms
  pub run : Accepted
  pub deferrals : List ℕ
  pub left : Left rooms run k first decomposed c a deferrals

-- tables of zeros
pub record Zeros (c a d : List ℕ) : Type 0 where
  pub clauses : c ≡ replicate (length c) 0
  pub atoms : a ≡ replicate (length a) 0
  pub deferrals : d ≡ replicate (length d) 0

-- the reply and the bytes of three tables of lengths t, as an outcome has them
pub record Answered (o : Outcome) (t : Lengths) (r : Reply) (c a d : List ℕ) : Type 0 where
  pub reply : r ≡ reply_of o
  pub clauses : c ≡ clause_table t o
  pub atoms : a ≡ atom_table t o
  pub deferrals : d ≡ deferral_table t o

-- a reply's number of clauses
abbrev pub count_of_reply : Reply → Clausified
count_of_reply (Replies.Accepted s fresh_ids visits) = Counts.Accepted s.total
count_of_reply (Replies.Refused n line) = Counts.Refused n line

-- a run beside one table more: 1 where that does not fit
abbrev pub run_if : Bool → Outcome → Outcome
run_if true o = o
run_if false o = refused 1 0

-- a reply's ten numbers
abbrev pub ten_of : ClauseStats → ℕ → ℕ → List ℕ
ten_of s fresh_ids visits =
    s.total ∷ s.horn ∷ s.disjunctive ∷ s.bottom_headed ∷ s.with_exists_head ∷ s.deferred ∷ s.decomposed ∷ s.refused ∷ fresh_ids ∷ visits ∷ []
