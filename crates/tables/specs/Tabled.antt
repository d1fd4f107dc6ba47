-- Clauses in the words c of a clause table and a of an atom table; deferrals in the words d of theirs.
use Rattle.std.specs.Prelude.{◌≡◌, List, [], ◌∷◌, ◌++◌, ℕ, ◌+◌, ◌*◌, ◌≤◌, length, get_or, set, take, drop}
use Rattle.std.proofs.lemmas.List.Edits.{sets}
use Rattle.words.specs.Words.{words}
use Rattle.ir.specs.declared.atom.Atom.{Atom}
use Rattle.rules.specs.State.{Clause, clause, total}
use Rattle.rules.specs.Run.{clause_words, atom_words, deferral_words, flat, clause_records, atom_records}

-- ---- a clause's record: where its atoms begin, and how many its body and its head have
abbrev pub first_atom : List ℕ → ℕ → ℕ
first_atom c i = get_or c (clause_words * i) 0

abbrev pub body_count : List ℕ → ℕ → ℕ
body_count c i = get_or c (clause_words * i + 1) 0

abbrev pub head_count : List ℕ → ℕ → ℕ
head_count c i = get_or c (clause_words * i + 2) 0

abbrev pub atom_count : List ℕ → ℕ → ℕ
atom_count c i = body_count c i + head_count c i

-- written: the whole record; only where the atoms begin; only how many the body has
abbrev pub clause_put : List ℕ → ℕ → ℕ → ℕ → ℕ → List ℕ
clause_put c i first body head = sets c (clause_words * i) (first ∷ body ∷ head ∷ [])

abbrev pub first_put : List ℕ → ℕ → ℕ → List ℕ
first_put c i first = set c (clause_words * i) first

abbrev pub body_put : List ℕ → ℕ → ℕ → List ℕ
body_put c i body = set c (clause_words * i + 1) body

-- ---- a deferral's record
abbrev pub deferred_line : List ℕ → ℕ → ℕ
deferred_line d i = get_or d (deferral_words * i) 0

abbrev pub deferred_kind : List ℕ → ℕ → ℕ
deferred_kind d i = get_or d (deferral_words * i + 1) 0

abbrev pub deferral_put : List ℕ → ℕ → ℕ → ℕ → List ℕ
deferral_put d i line kind = sets d (deferral_words * i) (line ∷ kind ∷ [])

-- ---- words and bytes that stand somewhere
-- the words xs, from word i on
abbrev pub At : List ℕ → ℕ → List ℕ → Type 0
At w i xs = take (length xs) (drop i w) ≡ xs

-- these bytes are the atoms l and no more
pub record Run (s : List ℕ) (l : List Atom) : Type 0 where
  pub long : length s ≡ 4 * (atom_words * length l)
  pub are : words s ≡ flat l

-- ---- clauses
-- a clause where there is none
abbrev pub no_clause : Clause
no_clause = clause [] []

-- clause i is x
pub record ClauseAt (c a : List ℕ) (i : ℕ) (x : Clause) : Type 0 where
  pub row : clause_words * i + clause_words ≤ length c
  pub body : body_count c i ≡ length x.body
  pub head : head_count c i ≡ length x.head
  pub room : atom_words * (first_atom c i + atom_count c i) ≤ length a
  pub atoms : At a (atom_words * first_atom c i) (flat (x.body ++ x.head))

-- the records of the clauses l stand from clause j and atom f on
pub record From (c a : List ℕ) (j f : ℕ) (l : List Clause) : Type 0 where
  pub rows : At c (clause_words * j) (clause_records f l)
  pub atoms : At a (atom_words * f) (atom_records l)
  pub room : atom_words * (f + total l) ≤ length a

-- the tables begin with the records of the clauses l
pub record Tabled (c a : List ℕ) (n : ℕ) (l : List Clause) : Type 0 where
  pub count : n ≡ length l
  pub clauses : take (clause_words * n) c ≡ clause_records 0 l
  pub atoms : take (atom_words * total l) a ≡ atom_records l

-- ---- for some atoms, some clause, some clauses
pub record RunThere (s : List ℕ) : Type 0 where
  pub list : List Atom
  pub run : Run s list

pub record ClauseThere (c a : List ℕ) (i : ℕ) : Type 0 where
  pub clause : Clause
  pub is : ClauseAt c a i clause

pub record TableThere (c a : List ℕ) (n : ℕ) : Type 0 where
  pub list : List Clause
  pub tabled : Tabled c a n list
