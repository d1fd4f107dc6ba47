-- What the reflexive passes ask of scratch and of the lent tables.
use Rattle.std.specs.Prelude.{◌≡◌, List, ℕ, ◌<◌, ◌≤◌, ◌^◌, length}
use Rattle.words.specs.Words.{words}
use Rattle.ir.specs.declared.counters.Counters.{Counters}
use Rattle.rules.specs.Deck.{most_roles}
use Rattle.rules.specs.State.{Env, Out}
use Rattle.rules.specs.Invariants.{Each, Bounds, ClauseIn}
use Rattle.reflexive.specs.Flags.{FlagsHeld}
use Rattle.tables.specs.Drawn.{tables, show, Lent}
use Rattle.tables.specs.Good.{Good}

-- a set of `size` roles stands in the flags of scratch's bytes s, and a state in the words c, a, d of the tables
pub record Flagged (s : List ℕ) (k : Counters) (size : ℕ) (c a d : List ℕ) : Type 0 where
  pub env : Env
  pub state : Out
  pub set : List ℕ
  pub flags : FlagsHeld (words s) set
  pub sized : size ≡ length set
  pub lent : Lent env.rooms c a d
  pub drawn : tables k c a d ≡ show k env.rooms state
  pub bounds : Bounds
  pub roles : bounds.roles ≤ most_roles
  pub vars : ℕ
  pub few : vars < 2 ^ 31
  pub inside : Each (ClauseIn bounds state.next_fresh vars) state.clauses
  pub good : Good k
  pub space : 338400 ≤ length s
