-- What decompose_wide_bodies asks of the lent tables.
use Rattle.std.specs.Prelude.{◌≡◌, List, ℕ, ◌≤◌}
use Rattle.ir.specs.declared.counters.Counters.{Counters}
use Rattle.rules.specs.Deck.{most_roles}
use Rattle.rules.specs.State.{Env, Out}
use Rattle.rules.specs.Invariants.{Each, Bounds, ClauseIn}
use Rattle.tables.specs.Drawn.{tables, show, Lent}

-- the words c and a of the clause and atom tables, beside some deferrals, are drawn from a state whose clauses name roles that
-- there may be, and classes that were taken
pub record Decomposing (k : Counters) (c a : List ℕ) : Type 0 where
  pub env : Env
  pub state : Out
  pub deferrals : List ℕ
  pub lent : Lent env.rooms c a deferrals
  pub drawn : tables k c a deferrals ≡ show k env.rooms state
  pub bounds : Bounds
  pub roles : bounds.roles ≤ most_roles
  pub vars : ℕ
  pub inside : Each (ClauseIn bounds state.next_fresh vars) state.clauses
  pub classes : state.next_fresh ≤ 1100000
