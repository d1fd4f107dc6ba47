-- One turn for each alternative of a concept, which is written from record `top` on.
use Rattle.std.specs.Prelude.{◌≡◌, List, ℕ, ◌*◌, ◌≤◌, take, drop}
use Prim.{Unit}
use Rattle.ir.specs.declared.counters.Counters.{Counters}
use Rattle.ir.specs.Answer.{Answer}
use Rattle.ir.specs.declared.atom.Atom.{Atom}
use Rattle.rules.specs.Base.{for_each}
use Rattle.rules.specs.State.{Env, Rooms, Out, E}
use Rattle.rules.specs.Antecedents.{Alternatives}
use Rattle.tables.specs.Drawn.{tables, show, shown, after}
use Rattle.tables.specs.Good.{Good, GoodAnswer, Alike, KeptAnswer}
use Rattle.hands.specs.Hands.{Four, four, EnvHeld}
use Rattle.axioms.specs.Bodies.{Encodes}

-- the alternatives that concept c has for env, from some state on
pub record Has (env : Env) (w : List ℕ) (k : Counters) (c y count : ℕ) : Type 0 where
  pub bound : ℕ
  pub start : Out
  pub alternatives : Alternatives
  pub end : Out
  pub encodes : Encodes env w k c y count bound start alternatives end

-- the rule of a turn; P: what else it is told
abbrev pub Turn : (Env → Type 0) → Type 0
Turn P = (env : Env) → P env → List Atom → E (Unit {0})

-- a call did the turn of each alternative; below top scratch is as it was
pub record Turned (top : ℕ) (P : Env → Type 0) (turn : Turn P) (k : Counters) (c y count : ℕ) (x x' : Four) (r : Answer) : Type 0 where
  pub equal : (env : Env) (p : P env) (q : Has env x.scratch k c y count) (s : Out) → EnvHeld env k x → tables k x.clauses x.atoms x.deferrals ≡ show k env.rooms s
      → after r x'.clauses x'.atoms x'.deferrals ≡ shown (λ _. 0) k env.rooms (for_each (turn env p) q.alternatives s)
  pub frame : take (6 * top) x'.scratch ≡ take (6 * top) x.scratch
  pub good : GoodAnswer r
  pub kept : KeptAnswer k r

-- i turns are done
pub record TurnsSo (turn : List Atom → E (Unit {0})) (k : Counters) (rooms : Rooms) (m : Counters) (c a d : List ℕ) (l : Alternatives) (s : Out) (i : ℕ) : Type 0 where
  pub state : Out
  pub drawn : tables m c a d ≡ show k rooms state
  pub rest : for_each turn l s ≡ for_each turn (drop i l) state

pub record TurnsAt (top : ℕ) (P : Env → Type 0) (turn : Turn P) (k : Counters) (c y count : ℕ) (w₀ c₀ a₀ w ci ai : List ℕ) (m : Counters) (i : ℕ) : Type 0 where
  pub within : i ≤ count
  pub frame : take (6 * top) w ≡ take (6 * top) w₀
  pub good : Good m
  pub alike : Alike k m
  pub so : (d : List ℕ) (env : Env) (p : P env) (q : Has env w₀ k c y count) (s : Out) → EnvHeld env k (four w₀ c₀ a₀ d) → tables k c₀ a₀ d ≡ show k env.rooms s
      → TurnsSo (turn env p) k env.rooms m ci ai d q.alternatives s i
