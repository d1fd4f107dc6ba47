-- All axioms: the code's answer beside the rule's.
use Rattle.std.specs.Prelude.{◌≡◌, List, ℕ}
use Prim.{Unit}
use Rattle.ir.specs.declared.counters.Counters.{Counters}
use Rattle.ir.specs.Lined.{Lined as CodeLined}
use Rattle.ir.specs.Lined.{Finished, Stopped}
use Rattle.rules.specs.State.{Rooms, Env, Out}
use Rattle.rules.specs.Axioms.{Clausifier}
use Rattle.rules.specs.Run.{Lined, done, stopped, clausify_axioms}
use Rattle.rules.specs.Invariants.{Each, Bounds, AxiomIn}
use Rattle.pool.specs.Layout.{pool_of}
use Rattle.ontology.specs.Layout.{axioms_of}
use Rattle.tables.specs.Drawn.{tables}
use Rattle.hands.specs.Hands.{Four}
use Rattle.axioms.specs.Wholes.{Whole, whole, drawn, standing, Clausifying, Untouched, Onward}
use Rattle.clausifier.specs.Limited.{Readied}

abbrev pub shown_lined : Counters → Rooms → Lined Clausifier (Unit {0}) → Lined Whole (Unit {0})
shown_lined k rooms (done a z) = done a (drawn k rooms z)
shown_lined k rooms (stopped e line) = stopped e line

abbrev pub after_lined : CodeLined → Four → Lined Whole (Unit {0})
after_lined (Finished k) y = done tt (whole (pool_of y.scratch k.concepts) (tables k y.clauses y.atoms y.deferrals))
after_lined (Stopped e line) y = stopped e line

abbrev pub ClausifyingLined : List ℕ → CodeLined → Type 0
ClausifyingLined s (Finished k) = Clausifying s k
ClausifyingLined s (Stopped e line) = Unit {0}

abbrev pub OnwardLined : Counters → CodeLined → Type 0
OnwardLined k (Finished k') = Onward k k'
OnwardLined k (Stopped e line) = Unit {0}

-- an env and a state, over which the n axioms in scratch are
pub record ReadyForAll (n : ℕ) (k : Counters) (x : Four) : Type 0 where
  pub env : Env
  pub bounds : Bounds
  pub state : Out
  pub readied : Readied env bounds k x state
  pub inside : Each (AxiomIn bounds k.concepts) (axioms_of x.scratch n)

-- a call did what the rule does with them
pub record ClausifiedAll (n line : ℕ) (k : Counters) (x y : Four) (r : CodeLined) : Type 0 where
  pub equal : (env : Env) (B : Bounds) (s : Out) → Readied env B k x s → Each (AxiomIn B k.concepts) (axioms_of x.scratch n)
      → after_lined r y ≡ shown_lined k env.rooms (clausify_axioms env line (axioms_of x.scratch n) (standing k x s))
  pub untouched : Untouched x.scratch y.scratch
  pub onward : OnwardLined k r
