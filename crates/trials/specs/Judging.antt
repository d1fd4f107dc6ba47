-- What the tests ask of the bytes that they are lent.
use Rattle.std.specs.Prelude.{◌≡◌, List, ℕ, ◌≤◌, length}
use Rattle.words.specs.Words.{words}
use Rattle.ir.specs.declared.counters.Counters.{Counters}
use Rattle.rules.specs.State.{Clause}
use Rattle.rules.specs.Deck.{Known, fine, read_deck}
use Rattle.rules.specs.DeckLaws.{DeckIn}
use Rattle.rules.specs.Invariants.{Each}
use Rattle.rules.specs.Run.{scratch_bytes}
use Rattle.rules.specs.Semantics.{Interpretation}
use Rattle.tables.specs.Drawn.{Sized}
use Rattle.tables.specs.Tabled.{Tabled}
use Rattle.ontology.specs.Loads.{Holds}
use Rattle.states.specs.Test.{store_bytes}
use Rattle.extents.specs.declared.Trial.{Trial}
use Rattle.layouts.specs.declared.limits.Limits.{Limits}
use Rattle.layouts.specs.Read.{Declares}
use Rattle.clausetests.specs.Given.{Given}
use Rattle.clausetests.specs.Clauses.{ClauseNames}

abbrev pub trial_of : Counters → ℕ → ℕ → Trial
trial_of k n size = record { size = size; base = k.nominal_base; concepts = k.concepts; axioms = n; line = k.line }

-- a deck that was loaded
pub record InScratch (d : Known) (v : List ℕ) (k : Counters) (n : ℕ) : Type 0 where
  pub inside : DeckIn d
  pub holds : Holds d 0 v k n

pub record LoadedThere (store scratch : List ℕ) (m : Limits) (k : Counters) (n : ℕ) : Type 0 where
  pub known : Known
  pub loaded : InScratch known (words scratch) k n
  pub declares : Declares known m
  pub room : store_bytes ≤ length store
  pub space : scratch_bytes ≤ length scratch

-- clauses in the tables, in a state that is laid out
pub record Clausal (I : Interpretation) (roles size count : ℕ) (l : List Clause) (text c a w v : List ℕ) : Type 0 where
  pub given : Given I roles size text w v
  pub tabled : Tabled c a count l
  pub names : Each (ClauseNames roles) l

pub record ClausalThere (size count : ℕ) (text clauses atoms store scratch : List ℕ) : Type 0 where
  pub meant : Interpretation
  pub roles : ℕ
  pub list : List Clause
  pub clausal : Clausal meant roles size count list text (words clauses) (words atoms) (words store) (words scratch)
  pub sized : Sized (length clauses) (length atoms) 0
  pub space : scratch_bytes ≤ length scratch

-- the clauses of a deck's run, in the tables' words
pub record Clauses (d : Known) (count : ℕ) (l : List Clause) (c a : List ℕ) : Type 0 where
  pub tabled : Tabled c a count l
  pub names : Each (ClauseNames d.header.roles) l

pub record JudgeThere (deck clauses atoms store scratch : List ℕ) (count fresh_ids : ℕ) : Type 0 where
  pub known : Known
  pub read : read_deck deck ≡ fine known
  pub list : List Clause
  pub clauses_there : Clauses known count list (words clauses) (words atoms)
  pub few : fresh_ids ≤ 2000000
  pub sized : Sized (length clauses) (length atoms) 0
  pub room : store_bytes ≤ length store
  pub space : scratch_bytes ≤ length scratch
