-- A sequence of calls, each of which does what a rule does.
use Rattle.std.specs.Prelude.{◌≡◌, List, ◌++◌, ℕ, length}
use Prim.{Unit, tt}
use Rattle.words.specs.Words.{words}
use Rattle.ir.specs.declared.counters.Counters.{Counters}
use Rattle.ir.specs.Answer.{Answer}
use Rattle.rules.specs.Base.{Res, ok}
use Rattle.rules.specs.State.{Limit, Rooms, Env, Out}
use Rattle.rules.specs.Axioms.{Clausifier, C}
use Rattle.tables.specs.Drawn.{tables, show}
use Rattle.waiting.specs.Limits.{Waits}
use Rattle.hands.specs.Hands.{Four, four, EnvHeld}
use Rattle.axioms.specs.Wholes.{standing, Clausifying, ClausifyingAfter, Untouched, Onward, Clausified, Queued}
use Rattle.axioms.specs.WholeLaws.{Standing}

-- the lent tables are as long as they were
pub record SameLong (x y : Four) : Type 0 where
  pub clauses : length y.clauses ≡ length x.clauses
  pub atoms : length y.atoms ≡ length x.atoms
  pub deferrals : length y.deferrals ≡ length x.deferrals

-- the state after a rule's answer r, as it stands at (m, y)
pub record Answered (m : Counters) (rooms : Rooms) (y : Four) (r : Res Clausifier (Unit {0})) : Type 0 where
  pub state : Clausifier
  pub is : r ≡ ok tt state
  pub stands : Standing m rooms y state

-- the state at (m, y), from which `rest` does what `whole` does from s at (k, x)
pub record Reached {R : Type 0} (whole rest : Env → Clausifier → R) (env : Env) (k m : Counters) (x y : Four) (s : Out) : Type 0 where
  pub state : Clausifier
  pub stands : Standing m env.rooms y state
  pub same : whole env (standing k x s) ≡ rest env state

-- on the way from `whole` at (k, x), `rest` is still to do at (m, y)
pub record Passed {R : Type 0} (whole rest : Env → Clausifier → R) (k m : Counters) (x y : Four) : Type 0 where
  pub so : (env : Env) (s : Out) → EnvHeld env k x → tables k x.clauses x.atoms x.deferrals ≡ show k env.rooms s → Reached whole rest env k m x y s
  pub untouched : Untouched x.scratch y.scratch
  pub onward : Onward k m
  pub long : SameLong x y

-- and scratch has the limits that wait in the state that is reached, behind p
pub record ReachedWaits {R : Type 0} (whole rest : Env → Clausifier → R) (env : Env) (k m : Counters) (x y : Four) (s : Out) (p : List Limit) : Type 0 where
  pub reached : Reached whole rest env k m x y s
  pub waits : Waits y.scratch (p ++ reached.state.out.limits)

pub record Queueing {R : Type 0} (whole rest : Env → Clausifier → R) (k m : Counters) (x y : Four) : Type 0 where
  pub so : (env : Env) (s : Out) (p : List Limit) → EnvHeld env k x → tables k x.clauses x.atoms x.deferrals ≡ show k env.rooms s → Waits x.scratch (p ++ s.limits)
      → ReachedWaits whole rest env k m x y s p

-- and the code can go on, with scratch's bytes s and the tables' words c, a, d
pub record Turned {R : Type 0} (whole rest : Env → Clausifier → R) (k m : Counters) (x : Four) (s c a d : List ℕ) : Type 0 where
  pub passed : Passed whole rest k m x (four (words s) c a d)
  pub clausifying : Clausifying s m

-- and with what waits
pub record TurnedWaits {R : Type 0} (whole rest : Env → Clausifier → R) (k m : Counters) (x : Four) (s c a d : List ℕ) : Type 0 where
  pub turned : Turned whole rest k m x s c a d
  pub queueing : Queueing whole rest k m x (four (words s) c a d)

-- what the two ensures of an axiom's function say
abbrev pub DidTurn : (Env → C (Unit {0})) → Counters → (s c a d s' c' a' d' : List ℕ) → Answer → Type 0
DidTurn rule k s c a d s' c' a' d' r = Clausified rule k (four (words s) c a d) (four (words s') c' a' d') r × ClausifyingAfter s' r

-- and where limits may wait
abbrev pub DidQueued : (Env → C (Unit {0})) → Counters → (s c a d s' c' a' d' : List ℕ) → Answer → Type 0
DidQueued rule k s c a d s' c' a' d' r =
    (Clausified rule k (four (words s) c a d) (four (words s') c' a' d') r × Queued rule k (four (words s) c a d) (four (words s') c' a' d')) × ClausifyingAfter s' r
