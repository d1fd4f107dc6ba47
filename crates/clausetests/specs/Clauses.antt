-- Clauses in the tables, in a state that is laid out.
use Rattle.std.specs.Prelude.{◌≡◌, false, List, ℕ, ◌≤◌, length}
use Rattle.words.specs.Words.{words}
use Rattle.rules.specs.Base.{any}
use Rattle.rules.specs.State.{Clause}
use Rattle.rules.specs.Invariants.{Each}
use Rattle.rules.specs.Run.{scratch_bytes}
use Rattle.rules.specs.Semantics.{Interpretation}
use Rattle.states.specs.Test.{wide_clause}
use Rattle.tables.specs.Drawn.{Sized}
use Rattle.tables.specs.Tabled.{Tabled, ClauseAt}
use Rattle.clausetests.specs.Given.{Given, NamesRoles}

-- the roles that a clause names are among the first n
abbrev pub ClauseNames : ℕ → Clause → Type 0
ClauseNames n c = Each (NamesRoles n) c.body × Each (NamesRoles n) c.head

pub record ClausesThere (size count : ℕ) (text clauses atoms store scratch : List ℕ) : Type 0 where
  pub meant : Interpretation
  pub roles : ℕ
  pub list : List Clause
  pub given : Given meant roles size text (words store) (words scratch)
  pub tabled : Tabled (words clauses) (words atoms) count list
  pub names : Each (ClauseNames roles) list
  pub narrow : any wide_clause list ≡ false
  pub sized : Sized (length clauses) (length atoms) 0
  pub space : scratch_bytes ≤ length scratch

-- clause i is c, has at most four variables, and names no other role
pub record ClauseIs (I : Interpretation) (roles size : ℕ) (c : Clause) (i : ℕ) (text clauses atoms w s : List ℕ) : Type 0 where
  pub given : Given I roles size text w s
  pub at : ClauseAt clauses atoms i c
  pub names : ClauseNames roles c
  pub narrow : wide_clause c ≡ false

pub record ClauseHere (size i : ℕ) (text clauses atoms store scratch : List ℕ) : Type 0 where
  pub meant : Interpretation
  pub roles : ℕ
  pub clause : Clause
  pub is : ClauseIs meant roles size clause i text (words clauses) (words atoms) (words store) (words scratch)
  pub space : scratch_bytes ≤ length scratch
