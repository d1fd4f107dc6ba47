-- An axiom with the limits that it names (option 4): what the code asks, and what it did.
use Rattle.std.specs.Prelude.{◌≡◌}
use Rattle.ir.specs.declared.counters.Counters.{Counters}
use Rattle.ir.specs.Answer.{Answer}
use Rattle.rules.specs.Concept.{Axiom}
use Rattle.rules.specs.State.{Env, Out}
use Rattle.rules.specs.Axioms.{clausify_whole}
use Rattle.rules.specs.Invariants.{Bounds, AxiomIn}
use Rattle.rules.specs.Handed.{RolesKept, Ready}
use Rattle.tables.specs.Drawn.{tables, show}
use Rattle.hands.specs.Hands.{Four, EnvHeld}
use Rattle.axioms.specs.Wholes.{shown_whole, after_whole, standing, Untouched, OnwardAnswer}

-- the state s stands at (k, x), and no limit waits in it
pub record Readied (env : Env) (B : Bounds) (k : Counters) (x : Four) (s : Out) : Type 0 where
  pub held : EnvHeld env k x
  pub shown : tables k x.clauses x.atoms x.deferrals ≡ show k env.rooms s
  pub roles : RolesKept B env
  pub ready : Ready B env (standing k x s)

-- for some env and state, over which the axiom is
pub record ReadyFor (a : Axiom) (k : Counters) (x : Four) : Type 0 where
  pub env : Env
  pub bounds : Bounds
  pub state : Out
  pub readied : Readied env bounds k x state
  pub inside : AxiomIn bounds k.concepts a

-- a call did what `clausify_whole` does
pub record Limited (a : Axiom) (k : Counters) (x y : Four) (r : Answer) : Type 0 where
  pub equal : (env : Env) (B : Bounds) (s : Out) → Readied env B k x s → AxiomIn B k.concepts a → after_whole r y ≡ shown_whole (λ _. 0) k env.rooms (clausify_whole env a (standing k x s))
  pub untouched : Untouched x.scratch y.scratch
  pub onward : OnwardAnswer k r
