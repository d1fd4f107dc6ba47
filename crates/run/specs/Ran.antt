-- The run of a deck, beside the rules' outcome.
use Rattle.std.specs.Prelude.{◌≡◌, List, ℕ, ◌*◌, ◌-◌, ◌≤◌, length, Result, Ok, Err}
use Rattle.ir.specs.Refusals.{refusal_number}
use Rattle.ir.specs.declared.answer.Refused.{Refused}
use Rattle.ir.specs.declared.counters.Counters.{Counters}
use Rattle.rules.specs.State.{Rooms}
use Rattle.rules.specs.Stats.{clause_stats}
use Rattle.rules.specs.Run.{Accepted, Outcome, accepted, refused, clause_words, atom_words, deferral_words, clause_records, atom_records, deferral_records}
use Rattle.tables.specs.Drawn.{padded}
use Rattle.run.specs.declared.Ran.{Ran}

-- what an accepted run left: its records in the words of the tables, then zeros; its numbers in the counters, the first fresh
-- class and the number of decomposed bodies
pub record Left (rooms : Rooms) (x : Accepted) (k : Counters) (first decomposed : ℕ) (c a d : List ℕ) : Type 0 where
  pub clauses : c ≡ padded (clause_words * rooms.clauses) (clause_records 0 x.clauses)
  pub atoms : a ≡ padded (atom_words * rooms.atoms) (atom_records x.clauses)
  pub deferrals : d ≡ padded (deferral_words * rooms.deferrals) (deferral_records x.deferrals)
  pub many : k.clauses ≡ length x.clauses
  pub deferred : k.deferrals ≡ length x.deferrals
  pub stats : x.stats ≡ clause_stats x.clauses k.deferrals decomposed
  pub low : first ≤ k.next_class
  pub fresh : x.fresh_ids ≡ k.next_class - first
  pub visits : x.visits ≡ k.visits

abbrev pub RanAs : Rooms → Outcome → List ℕ → List ℕ → List ℕ → Result Ran Refused → Type 0
RanAs rooms (accepted x) c a d (Ok r) = Left rooms x r.counters r.first r.decomposed c a d
RanAs rooms (accepted x) c a d (Err e) = ⊥
RanAs rooms (refused m at) c a d (Ok r) = ⊥
RanAs rooms (refused m at) c a d (Err e) = (refusal_number e.refusal ≡ m) × (e.line ≡ at)
