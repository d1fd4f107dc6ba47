-- Clauses go down to their new places in the tables, and the named branches behind them.
use Rattle.std.specs.Prelude.{◌≡◌, List, map, ℕ, ◌*◌, ◌≤◌, length, take, drop}
use Rattle.std.proofs.lemmas.List.Edits.{sets}
use Rattle.rules.specs.State.{Clause, total}
use Rattle.rules.specs.Branches.{Branch, branch_clause}
use Rattle.rules.specs.Run.{clause_words, clause_records, atom_records}

-- n words from `from` on, at `to`
abbrev pub moved : List ℕ → ℕ → ℕ → ℕ → List ℕ
moved w from to n = sets w to (take n (drop from w))

-- the clauses c and atoms a before the pass, of the clauses l, and c' and a' after its first i clauses, which are now `done`, with `to` atoms
pub record Half (l : List Clause) (c a c' a' : List ℕ) (i to : ℕ) (done : List Clause) : Type 0 where
  pub many : length done ≡ i
  pub among : i ≤ length l
  pub sum : to ≡ total done
  pub low : to ≤ total (take i l)
  pub clauses : take (clause_words * i) c' ≡ clause_records 0 done
  pub clauses_rest : drop (clause_words * i) c' ≡ drop (clause_words * i) c
  pub atoms : take (6 * to) a' ≡ atom_records done
  pub atoms_rest : drop (6 * total (take i l)) a' ≡ drop (6 * total (take i l)) a
  pub same_clauses : length c' ≡ length c
  pub same_atoms : length a' ≡ length a

-- the branches as clauses, from clause i and atom `to` on
abbrev pub branches_at : ℕ → ℕ → List Branch → List ℕ → List ℕ
branches_at i to l c = sets c (clause_words * i) (clause_records to (map branch_clause l))

abbrev pub branch_atoms_at : ℕ → List Branch → List ℕ → List ℕ
branch_atoms_at to l a = sets a (6 * to) (atom_records (map branch_clause l))
