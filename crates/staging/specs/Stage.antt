-- A deck's clauses after the last axiom and before the later passes, in the lent tables; and what scratch holds beside them.
use Rattle.std.specs.Prelude.{◌≡◌, List, ℕ, ◌+◌, ◌*◌, ◌<◌, length, get_or, replicate}
use Prim.{Unit, tt}
use Rattle.words.specs.Words.{words}
use Rattle.ir.specs.Scratch.{roles_at}
use Rattle.ir.specs.Options.{follow_roles}
use Rattle.ir.specs.declared.counters.Counters.{Counters}
use Rattle.ir.specs.Lined.{Lined as CodeLined}
use Rattle.ir.specs.Lined.{Finished, Stopped}
use Rattle.rules.specs.Concept.{Axiom}
use Rattle.rules.specs.Normalize.{St}
use Rattle.rules.specs.Inverse.{inverse_canon_of}
use Rattle.rules.specs.State.{Rooms}
use Rattle.rules.specs.Axioms.{Clausifier}
use Rattle.rules.specs.Deck.{Known, most_roles, axiom_line}
use Rattle.rules.specs.Invariants.{Each, ClauseIn}
use Rattle.rules.specs.DeckLaws.{bounds_of}
use Rattle.rules.specs.Run.{Lined, done, stopped, lined_then, clausify_axioms, env_of, start}
use Rattle.pool.specs.Answers.{sized}
use Rattle.ontology.specs.Layout.{axioms_of}
use Rattle.normalize.specs.Loaded.{normalized}
use Rattle.inverse.specs.Layout.{RolesHeld, Building}
use Rattle.tables.specs.Drawn.{tables, show, Lent}
use Rattle.tables.specs.Good.{Good}

-- the rules' answer
abbrev pub staged : ℕ → Rooms → Known → Lined Clausifier (Unit {0})
staged limit rooms d = lined_then (normalized d limit) (λ axioms s. clausify_axioms (env_of d rooms axioms) (axiom_line d 0) axioms (start d s))

-- ---- in the words of the lent tables
-- a state is drawn in tables of these rooms
pub record Shows (rooms : Rooms) (k : Counters) (c a d : List ℕ) (z : Clausifier) : Type 0 where
  pub base : Counters
  pub shown : tables k c a d ≡ show (sized base z.pool) rooms z.out
  pub sizes : Lent rooms c a d

pub record Showing (rooms : Rooms) (k : Counters) (c a d : List ℕ) : Type 0 where
  pub state : Clausifier
  pub shows : Shows rooms k c a d state

-- the answer, drawn; the n normalised axioms and their role map stand in scratch's bytes s, as the later passes read them
pub record Staged (limit : ℕ) (rooms : Rooms) (deck : Known) (s : List ℕ) (n : ℕ) (k : Counters) (c a d : List ℕ) : Type 0 where
  pub normal : List Axiom
  pub begun : St
  pub state : Clausifier
  pub formed : normalized deck limit ≡ done normal begun
  pub made : staged limit rooms deck ≡ done tt state
  pub shows : Shows rooms k c a d state
  pub listed : axioms_of (words s) n ≡ normal
  pub map : RolesHeld (words s) (inverse_canon_of (follow_roles deck.header.options) normal)
  pub within : (r : ℕ) → r < most_roles → get_or (words s) (roles_at + r) 0 < 2 * most_roles
  pub building : Building s n
  pub inside : Each (ClauseIn (bounds_of deck) state.out.next_fresh (state.out.visits + 3)) state.out.clauses
  pub good : Good k
  pub options : k.options ≡ deck.header.options

abbrev pub StagedAs : ℕ → Rooms → Known → List ℕ → ℕ → List ℕ → List ℕ → List ℕ → CodeLined → Type 0
StagedAs limit rooms deck s n c a d (Finished k) = Staged limit rooms deck s n k c a d
StagedAs limit rooms deck s n c a d (Stopped e line) = staged limit rooms deck ≡ stopped e line

-- tables of zeros, of these rooms
pub record Blank (rooms : Rooms) (c a d : List ℕ) : Type 0 where
  pub sizes : Lent rooms c a d
  pub clauses : c ≡ replicate (length c) 0
  pub atoms : a ≡ replicate (length a) 0
  pub deferrals : d ≡ replicate (length d) 0
