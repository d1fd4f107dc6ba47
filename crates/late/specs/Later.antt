-- What the passes after the last axiom ask of scratch and of the lent tables.
use Rattle.std.specs.Prelude.{◌≡◌, List, ℕ, ◌*◌, ◌<◌, ◌≤◌, ◌^◌, length}
use Rattle.words.specs.Words.{words}
use Rattle.ir.specs.declared.counters.Counters.{Counters}
use Rattle.rules.specs.Concept.{Axiom}
use Rattle.rules.specs.Deck.{most_roles}
use Rattle.rules.specs.State.{Env, Out}
use Rattle.rules.specs.Invariants.{Each, Bounds, ClauseIn}
use Rattle.ontology.specs.Layout.{axioms_of}
use Rattle.inverse.specs.Layout.{RolesHeld, Building}
use Rattle.reflexive.specs.Flags.{MapWithin}
use Rattle.tables.specs.Drawn.{tables, show, Lent}
use Rattle.tables.specs.Good.{Good}
use Rattle.branches.specs.Layout.{work_words}

-- the deck's n axioms and the role map stand in scratch's bytes s, and a state in the words c, a, d of the tables
pub record Later (s : List ℕ) (k : Counters) (n : ℕ) (c a d : List ℕ) : Type 0 where
  pub env : Env
  pub state : Out
  pub axioms : List Axiom
  pub lent : Lent env.rooms c a d
  pub drawn : tables k c a d ≡ show k env.rooms state
  pub listed : axioms_of (words s) n ≡ axioms
  pub map : RolesHeld (words s) env.inverse_canon
  pub within : MapWithin (words s)
  pub building : Building s n
  pub bounds : Bounds
  pub roles : bounds.roles ≤ most_roles
  pub vars : ℕ
  pub few : vars < 2 ^ 31
  pub inside : Each (ClauseIn bounds state.next_fresh vars) state.clauses
  pub good : Good k
  pub space : 4 * work_words ≤ length s
