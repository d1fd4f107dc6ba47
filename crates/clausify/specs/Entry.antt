-- What the entries promise: the reply, the bytes of the lent tables, and the clauses' meaning.
use Rattle.std.specs.Prelude.{◌≡◌, true, false, ℕ, length, eqb}
use mathlib.Core.List.{List, [], Memᴰ}
use Rattle.std.proofs.Math.Option.{Option, some}
use Prim.{Unit}
use Rattle.rules.specs.Base.{any}
use Rattle.rules.specs.Concept.{Axiom}
use Rattle.rules.specs.Normalize.{St}
use Rattle.rules.specs.State.{Clause, Limit}
use Rattle.rules.specs.Axioms.{Clausifier}
use Rattle.rules.specs.Deck.{Known, fine, read_deck}
use Rattle.rules.specs.Stats as Rules
use Rattle.rules.specs.Run.{Lengths, Outcome, Accepted, accepted, refused, Run, env_of, rooms_of}
use Rattle.rules.specs.Semantics.{Interpretation}
use Rattle.rules.specs.Statements.{left_clauses, clauses_of, Proper, all_hold, is_inverse_axiom, satisfies_some, FirstHalf, SecondHalf}
use Rattle.rules.specs.EqualNames.{Call, Clausifies, calls_of, Settles, NameIsFiller}
use Rattle.statistics.specs.declared.ClauseStats.{ClauseStats}
use Rattle.clausify.specs.Reply.{Reply}
use Rattle.clausify.specs.Reply as Replies
use Rattle.clausify.specs.Clausified.{Clausified}
use Rattle.clausify.specs.Clausified as Counts

-- the lengths of the lent tables
abbrev pub lent : List ℕ → List ℕ → List ℕ → List ℕ → Lengths
lent clauses atoms deferrals scratch = record { clauses = length clauses; atoms = length atoms; deferrals = length deferrals; scratch = length scratch }

-- ---- the replies: document 01's number and values for each case
abbrev pub coded : Rules.ClauseStats → ClauseStats
coded s = record {
  total = s.total;
  horn = s.horn;
  disjunctive = s.disjunctive;
  bottom_headed = s.bottom_headed;
  with_exists_head = s.with_exists_head;
  deferred = s.deferred;
  decomposed = s.decomposed;
  refused = s.refused;
}

-- clausify_with_stats: the statistics, fresh ids and visits; or a refusal's number and line
abbrev pub reply_of : Outcome → Reply
reply_of (accepted x) = Replies.Accepted (coded x.stats) x.fresh_ids x.visits
reply_of (refused n line) = Replies.Refused n line

-- clausify: the number of clauses; or a refusal's number and line
abbrev pub count_of : Outcome → Clausified
count_of (accepted x) = Counts.Accepted x.stats.total
count_of (refused n line) = Counts.Refused n line

-- ---- demand 3, about the clauses that are decoded from the bytes of the tables at exit; in plain words: docs/MEANING.md
-- with option 4, of every run of the deck that leaves the clauses l: in each interpretation in which they hold and the inverse-role
-- axioms are satisfied, the name of an at-most filler is that filler
pub record Names (deck : List ℕ) (d : Known) (l : List (Option Clause)) : Type 0 where
  -- where the limit settles
  pub settled : (t : Lengths) (a : Accepted) (axioms : List Axiom) (s : St) (z : Clausifier) → Clausifies deck t d a axioms s z → clauses_of t a ≡ l
      → (I : Interpretation) → Proper d I → all_hold I l ≡ true → satisfies_some is_inverse_axiom d I ≡ true
      → (w : Limit) → Settles (env_of d (rooms_of t) axioms) (calls_of t d axioms s) w → NameIsFiller I z.pool w
  -- where no class is a data key, and no deferral has the axiom's line
  pub of_axiom : (t : Lengths) (a : Accepted) (axioms : List Axiom) (s : St) (z : Clausifier) → Clausifies deck t d a axioms s z → clauses_of t a ≡ l
      → (I : Interpretation) → Proper d I → all_hold I l ≡ true → satisfies_some is_inverse_axiom d I ≡ true → d.keys ≡ []
      → (c : Call) → Memᴰ c (calls_of t d axioms s) → any (λ e. eqb e.line c.before.out.line) a.deferrals ≡ false
      → (w : Limit) → c.of ≡ some w → NameIsFiller I z.pool w

-- the deck was read, and both halves hold of the first `total` clauses in these bytes
pub record Meaning (deck clauses atoms : List ℕ) (total fresh_ids deferred : ℕ) : Type 0 where
  pub known : Known
  pub read : read_deck deck ≡ fine known
  pub first : FirstHalf known fresh_ids (left_clauses total clauses atoms)
  pub second : SecondHalf known fresh_ids deferred (left_clauses total clauses atoms)
  pub names : Names deck known (left_clauses total clauses atoms)

-- by the reply's own numbers
abbrev pub Meant : (deck clauses atoms : List ℕ) → Reply → Type 0
Meant deck c a (Replies.Accepted s fresh_ids visits) = Meaning deck c a s.total fresh_ids s.deferred
Meant deck c a (Replies.Refused n line) = Unit {0}

-- by the reply's count; fresh ids and deferrals are the run's
pub record CountMeaning (deck : List ℕ) (t : Lengths) (clauses atoms : List ℕ) (total : ℕ) : Type 0 where
  pub run : Accepted
  pub is : Run deck t ≡ accepted run
  pub meaning : Meaning deck clauses atoms total run.fresh_ids run.stats.deferred

abbrev pub MeantCount : (deck : List ℕ) → Lengths → (clauses atoms : List ℕ) → Clausified → Type 0
MeantCount deck t c a (Counts.Accepted n) = CountMeaning deck t c a n
MeantCount deck t c a (Counts.Refused n line) = Unit {0}
