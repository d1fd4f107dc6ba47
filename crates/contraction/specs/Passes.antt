-- What the later passes ask of the lent tables, and what they do to them.
use Rattle.std.specs.Prelude.{◌≡◌, List, ℕ, ◌<◌, ◌≤◌, ◌^◌, get_or}
use Prim.{Unit}
use Rattle.ir.specs.Scratch.{roles_at, alternatives_at}
use Rattle.ir.specs.declared.counters.Counters.{Counters}
use Rattle.ir.specs.Answer.{Answer}
use Rattle.ir.specs.Answer.{Done, Refused}
use Rattle.rules.specs.Deck.{most_roles}
use Rattle.rules.specs.State.{Clause, total, Env, Out, E}
use Rattle.rules.specs.Invariants.{Each, Bounds, ClauseIn}
use Rattle.tables.specs.Drawn.{tables, show, shown, after, Lent}
use Rattle.tables.specs.Good.{GoodAnswer, KeptAnswer}
use Rattle.hands.specs.Hands.{Four}
use Rattle.tables.specs.Tabled.{Tabled}
use Rattle.reflexive.specs.Flags.{FlagsHeld}

-- clauses whose atoms name roles that there may be, classes far below the last number, and variables below `most`
pub record StandingBelow (most : ℕ) (k : Counters) (c a : List ℕ) : Type 0 where
  pub list : List Clause
  pub tabled : Tabled c a k.clauses list
  pub atoms : k.atoms ≡ total list
  pub bounds : Bounds
  pub roles : bounds.roles ≤ most_roles
  pub fresh : ℕ
  pub classes : fresh < 2 ^ 31
  pub vars : ℕ
  pub few : vars < most
  pub inside : Each (ClauseIn bounds fresh vars) list

abbrev pub Standing : Counters → List ℕ → List ℕ → Type 0
Standing k c a = StandingBelow (2 ^ 31) k c a

-- the tables are drawn from some state
pub record Drawn (k : Counters) (c a d : List ℕ) : Type 0 where
  pub env : Env
  pub state : Out
  pub lent : Lent env.rooms c a d
  pub drawn : tables k c a d ≡ show k env.rooms state

abbrev pub StandingBelowAfter : ℕ → List ℕ → List ℕ → Answer → Type 0
StandingBelowAfter most c a (Done k i) = StandingBelow most k c a
StandingBelowAfter most c a (Refused e) = Unit {0}

abbrev pub StandingAfter : List ℕ → List ℕ → Answer → Type 0
StandingAfter c a r = StandingBelowAfter (2 ^ 31) c a r

-- a pass over the clauses did what the rule does, for the set of reflexive roles in the flags
pub record Passed (rule : Env → List ℕ → E (Unit {0})) (k : Counters) (x y : Four) (r : Answer) : Type 0 where
  pub equal : (env : Env) (set : List ℕ) (s : Out) → FlagsHeld x.scratch set → Lent env.rooms x.clauses x.atoms x.deferrals → tables k x.clauses x.atoms x.deferrals ≡ show k env.rooms s
      → after r y.clauses y.atoms y.deferrals ≡ shown (λ _. 0) k env.rooms (rule env set s)
  pub maps : (j : ℕ) → roles_at ≤ j → j < alternatives_at → get_or y.scratch j 0 ≡ get_or x.scratch j 0
  pub good : GoodAnswer r
  pub kept : KeptAnswer k r
