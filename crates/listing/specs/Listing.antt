-- The text of clauses that stand in the words c of a clause table and a of an atom table.
use Rattle.std.specs.Prelude.{List, [], ◌∷◌, ◌++◌, ℕ, ◌+◌, ◌*◌, ◌≤◌, length, take, drop}
use Rattle.rules.specs.State.{Clause, total}
use Rattle.rules.specs.Run.{atom_words}
use Rattle.rules.specs.Lister.{fields_text, atoms_text, clauses_text}
use Rattle.rows.specs.RowLaws.{Left}
use Rattle.tables.specs.Tabled.{Tabled}

-- clauses that stand in their tables, and room for their text from `at` on
pub record Listable (c a : List ℕ) (n at room : ℕ) : Type 0 where
  pub list : List Clause
  pub tabled : Tabled c a n list
  pub fits : at + 45 * n + 78 * total list ≤ room

-- the line of atom j of a run's words, and the lines of clause i and its atoms
abbrev pub atom_text : List ℕ → ℕ → List ℕ
atom_text w j = fields_text (42 ∷ take atom_words (drop (atom_words * j) w))

abbrev pub clause_text : ℕ → Clause → List ℕ
clause_text i x = fields_text (41 ∷ i ∷ length x.body ∷ length x.head ∷ []) ++ atoms_text (x.body ++ x.head)

-- of the text of the n clauses, to be put into s from `at` on, that of the clauses from i on is still to be put into s', from p on
pub record ListedTo (c a : List ℕ) (n : ℕ) (s : List ℕ) (at : ℕ) (s' : List ℕ) (p i : ℕ) : Type 0 where
  pub here : i ≤ n
  pub left : (l : List Clause) → Tabled c a n l → Left s at (clauses_text 0 l) s' p (clauses_text i (drop i l))
