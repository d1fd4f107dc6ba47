-- From a deck that was read to the state before the first clause.
use Rattle.std.specs.Prelude.{◌≡◌, List, ℕ, ◌+◌, ◌*◌, ◌≤◌, length, replicate}
use Rattle.words.specs.Words.{words}
use Rattle.ir.specs.Scratch.{limits_at, limits_words}
use Rattle.ir.specs.declared.counters.Counters.{Counters}
use Rattle.ir.specs.Lined.{Lined as CodeLined}
use Rattle.ir.specs.Lined.{Finished, Stopped}
use Rattle.rules.specs.Concept.{Axiom}
use Rattle.rules.specs.Normalize.{St}
use Rattle.rules.specs.State.{Rooms}
use Rattle.rules.specs.Deck.{Known}
use Rattle.rules.specs.DeckLaws.{DeckIn}
use Rattle.rules.specs.Run.{done, stopped, env_of, start, clause_words, atom_words, deferral_words}
use Rattle.pool.specs.Layout.{pool_of}
use Rattle.ontology.specs.Layout.{axioms_of}
use Rattle.ontology.specs.Loads.{Holds}
use Rattle.normalize.specs.Loaded.{normalized}
use Rattle.tables.specs.Drawn.{Tables, tables, show}
use Rattle.hands.specs.Hands.{EnvIn}
use Rattle.axioms.specs.Wholes.{Clausifying}
use Rattle.clausifier.specs.Arms.{AxiomsOf}

-- what the code asks of scratch's bytes s: a deck of n axioms stands there
pub record Preparing (s : List ℕ) (k : Counters) (n : ℕ) : Type 0 where
  pub known : Known
  pub inside : DeckIn known
  pub limit : ℕ
  pub most : limit ≤ 1000000
  pub holds : Holds known limit (words s) k n
  pub space : 4 * (limits_at + limits_words) ≤ length s

-- lent tables of zeros
abbrev pub empty : Counters → Rooms → Tables
empty k rooms = tables k (replicate (clause_words * rooms.clauses) 0) (replicate (atom_words * rooms.atoms) 0) (replicate (deferral_words * rooms.deferrals) 0)

-- the deck's normal form stands there, with all that clausify_axioms reads
pub record Prepared (d : Known) (limit : ℕ) (s : List ℕ) (k : Counters) (n : ℕ) : Type 0 where
  pub normal : List Axiom
  pub state : St
  pub made : normalized d limit ≡ done normal state
  pub options : k.options ≡ d.header.options
  pub clausifying : Clausifying s k
  pub axioms : AxiomsOf (words s) k n
  pub listed : axioms_of (words s) n ≡ normal
  pub pool : pool_of (words s) k.concepts ≡ state.pool
  pub read : (rooms : Rooms) → EnvIn (env_of d rooms normal) k (words s)
  pub shown : (rooms : Rooms) → empty k rooms ≡ show k rooms (start d state).out

-- or the rule's refusal
abbrev pub PreparedAs : Known → ℕ → List ℕ → ℕ → CodeLined → Type 0
PreparedAs d limit s n (Finished k) = Prepared d limit s k n
PreparedAs d limit s n (Stopped e line) = normalized d limit ≡ stopped e line
