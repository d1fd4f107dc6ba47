-- The limits that wait after an axiom's own clauses (option 4): what the code asks, and what it did.
use Rattle.std.specs.Prelude.{◌≡◌, List, ◌++◌, ℕ, ◌-◌, ◌≤◌, length}
use Rattle.words.specs.Words.{words}
use Rattle.ir.specs.declared.counters.Counters.{Counters}
use Rattle.ir.specs.Answer.{Answer}
use Rattle.rules.specs.State.{Limit, Env, Out}
use Rattle.rules.specs.Axioms.{Clausifier, settle}
use Rattle.rules.specs.Invariants.{Bounds}
use Rattle.rules.specs.Handed.{RolesKept, Settling}
use Rattle.tables.specs.Drawn.{tables, show}
use Rattle.waiting.specs.Limits.{Waits}
use Rattle.hands.specs.Hands.{Four, four, EnvHeld}
use Rattle.axioms.specs.Wholes.{shown_whole, after_whole, standing, Clausifying, Untouched, Onward, OnwardAnswer}
use Rattle.axioms.specs.WholeLaws.{Standing}
use Rattle.lists.specs.Turns.{SameLong}

abbrev pub limit_of : ℕ → ℕ → Limit
limit_of filler name = record { filler = filler; name = name }

-- the state s stands at (k, x), its limits in scratch
pub record Settlable (env : Env) (B : Bounds) (k : Counters) (x : Four) (s : Out) : Type 0 where
  pub held : EnvHeld env k x
  pub shown : tables k x.clauses x.atoms x.deferrals ≡ show k env.rooms s
  pub roles : RolesKept B env
  pub settling : Settling B env (standing k x s)
  pub waits : Waits x.scratch s.limits

-- for some env and state
pub record Unsettled (k : Counters) (x : Four) : Type 0 where
  pub env : Env
  pub bounds : Bounds
  pub state : Out
  pub settlable : Settlable env bounds k x state

-- a call did what `settle` does
pub record Settled (k : Counters) (x y : Four) (r : Answer) : Type 0 where
  pub equal : (env : Env) (B : Bounds) (s : Out) → Settlable env B k x s → after_whole r y ≡ shown_whole (λ _. 0) k env.rooms (settle env (standing k x s))
  pub untouched : Untouched x.scratch y.scratch
  pub onward : OnwardAnswer k r

-- ---- the loop, from the counters k₀ and the words x₀: i limits are settled
-- from z₀: those that were, and the state now
pub record SettledSo (env : Env) (B : Bounds) (z₀ : Clausifier) (k : Counters) (x : Four) (i : ℕ) : Type 0 where
  pub past : List Limit
  pub many : length past ≡ i
  pub state : Clausifier
  pub stands : Standing k env.rooms x state
  pub settling : Settling B env state
  pub waits : Waits x.scratch (past ++ state.out.limits)
  pub rest : settle env z₀ ≡ settle env state

pub record SettledTo (k₀ : Counters) (x₀ : Four) (k : Counters) (x : Four) (i : ℕ) : Type 0 where
  pub few : i ≤ k.concepts - 1
  pub so : (env : Env) (B : Bounds) (s : Out) → Settlable env B k₀ x₀ s → SettledSo env B (standing k₀ x₀ s) k x i
  pub untouched : Untouched x₀.scratch x.scratch
  pub onward : Onward k₀ k
  pub long : SameLong x₀ x

-- and the code can go on, with the bytes s, c, a, d after s₀, c₀, a₀, d₀
pub record SettledAt (s₀ c₀ a₀ d₀ : List ℕ) (k₀ : Counters) (s c a d : List ℕ) (k : Counters) (i : ℕ) : Type 0 where
  pub turn : SettledTo k₀ (four (words s₀) (words c₀) (words a₀) (words d₀)) k (four (words s) (words c) (words a) (words d)) i
  pub ready : Clausifying s k
  pub scratch : length s ≡ length s₀
  pub clauses : length c ≡ length c₀
  pub atoms : length a ≡ length a₀
  pub deferrals : length d ≡ length d₀
