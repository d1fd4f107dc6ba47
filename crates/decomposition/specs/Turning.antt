-- The pass over the clauses of a list: what stands in the tables before it, and after its first i clauses.
use Rattle.std.specs.Prelude.{◌≡◌, Result, Ok, Err, List, [], ℕ, suc, ◌+◌, ◌<◌, ◌≤◌, length, drop}
use Rattle.ir.specs.declared.counters.Counters.{Counters}
use Rattle.ir.specs.declared.refusal.Refusal.{Refusal}
use Rattle.ir.specs.declared.refusal.Refusal.TheVariants.{NoRoom}
use Rattle.rules.specs.Deck.{most_roles}
use Rattle.rules.specs.State.{Clause}
use Rattle.rules.specs.Branches.{Rewritten, decompose_from}
use Rattle.rules.specs.Branches as Rules
use Rattle.rules.specs.Invariants.{Each, Bounds, ClauseIn}
use Rattle.tables.specs.Tabled.{Tabled}
use Rattle.branches.specs.Layout.{most_named}
use Rattle.branches.specs.Memo.{NamedHeld}
use Rattle.naming.specs.GoesLaws.{Goes}
use Rattle.branches.specs.declared.memo.Naming.{Naming}
use Rattle.decomposition.specs.Placing.{Half}
use Rattle.decomposition.specs.Decomposing.{Decomposing}
use Rattle.decomposition.specs.declared.turn.Progress.{Progress}

-- no clause yet, and no branch
abbrev pub no_clause : Rewritten
no_clause = record { clauses = []; count = 0 }

abbrev pub no_name : ℕ → Rules.Naming
no_name fresh = record { next_fresh = fresh; named = [] }

-- the clauses l in the tables' words c and a; their atoms name roles that there may be, and classes below `fresh`
pub record Listed (l : List Clause) (fresh : ℕ) (c a : List ℕ) : Type 0 where
  pub tabled : Tabled c a (length l) l
  pub bounds : Bounds
  pub roles : bounds.roles ≤ most_roles
  pub vars : ℕ
  pub inside : Each (ClauseIn bounds fresh vars) l
  pub classes : fresh ≤ 1100000

-- after the first i: the rule on the rest answers as on the whole; w are the words of scratch
pub record Passed (l : List Clause) (fresh : ℕ) (c a w c' a' : List ℕ) (s : Naming) (i to n : ℕ) : Type 0 where
  pub done : Rewritten
  pub state : Rules.Naming
  pub same : decompose_from no_clause l (no_name fresh) ≡ decompose_from done (drop i l) state
  pub counted : done.count ≡ n
  pub fewer : n ≤ i
  pub first : s.first ≡ fresh
  pub held : NamedHeld w s state
  pub half : Half l c a c' a' i to done.clauses

-- for some list with an i-th clause
pub record TurnThere (w c' a' : List ℕ) (s : Naming) (i to n : ℕ) : Type 0 where
  pub list : List Clause
  pub fresh : ℕ
  pub c : List ℕ
  pub a : List ℕ
  pub listed : Listed list fresh c a
  pub more : i < length list
  pub passed : Passed list fresh c a w c' a' s i to n

-- the code's answer for clause i: a refusal where the rule names more than there is room for
abbrev pub TurnedBy : List Clause → ℕ → (c a w c' a' : List ℕ) → ℕ → Result Progress Refusal → Type 0
TurnedBy l fresh c a w c' a' i (Ok p) = Passed l fresh c a w c' a' p.naming (i + 1) p.atoms p.rewritten
TurnedBy l fresh c a w c' a' i (Err e) = (e ≡ NoRoom) × Goes (suc most_named) (decompose_from no_clause l (no_name fresh))

-- the same of a drawn state's clauses; after all of them
abbrev pub DrawnPassed : (k : Counters) (c a : List ℕ) → Decomposing k c a → (w c' a' : List ℕ) → Naming → (i to n : ℕ) → Type 0
DrawnPassed k c a D w c' a' s i to n = Passed D.state.clauses D.state.next_fresh c a w c' a' s i to n

abbrev pub AllPassed : (k : Counters) (c a : List ℕ) → Decomposing k c a → (w c' a' : List ℕ) → Naming → (to n : ℕ) → Type 0
AllPassed k c a D w c' a' s to n = DrawnPassed k c a D w c' a' s k.clauses to n

pub record EndThere (k : Counters) (w c' a' : List ℕ) (s : Naming) (to n : ℕ) : Type 0 where
  pub c : List ℕ
  pub a : List ℕ
  pub before : Decomposing k c a
  pub passed : AllPassed k c a before w c' a' s to n
