-- Reading clauses and deferrals back from the tables' words.
use Rattle.std.specs.Prelude.{List, [], ◌∷◌, ℕ, zero, suc, ◌+◌, ◌*◌, get_or}
use Rattle.std.proofs.Math.Option.{Option, none, some}
use Rattle.ir.specs.Records.{atom_at}
use Rattle.ir.specs.declared.atom.Atom.{Atom}
use Rattle.ir.specs.Records.{Read}
use Rattle.std.specs.Prelude.{None, Some}
use Rattle.rules.specs.State.{Clause, clause}

-- one atom more in front, if both are read
abbrev pub read_on : Read → Option (List Atom) → Option (List Atom)
read_on None rest = none
read_on (Some a) none = none
read_on (Some a) (some l) = some (a ∷ l)

-- n atoms from record `first` on; none if one of the records is no atom
unfoldable pub decode_atoms : List ℕ → ℕ → ℕ → Option (List Atom)
decode_atoms w first zero = some []
decode_atoms w first (suc n) = read_on (atom_at w first) (decode_atoms w (first + 1) n)

abbrev pub clause_of : Option (List Atom) → Option (List Atom) → Option Clause
clause_of none h = none
clause_of (some b) none = none
clause_of (some b) (some h) = some (clause b h)

-- the body from the first atom on, the head behind it
abbrev pub decode_runs : List ℕ → (first body head : ℕ) → Option Clause
decode_runs atoms first body head = clause_of (decode_atoms atoms first body) (decode_atoms atoms (first + body) head)

-- clause i, from the words of the clause table and of the atom table
unfoldable pub decode_clause : List ℕ → List ℕ → ℕ → Option Clause
decode_clause clauses atoms i = decode_runs atoms (get_or clauses (3 * i) 0) (get_or clauses (3 * i + 1) 0) (get_or clauses (3 * i + 2) 0)

-- n clauses from clause i on
unfoldable pub decode_from : ℕ → ℕ → List ℕ → List ℕ → List (Option Clause)
decode_from i zero clauses atoms = []
decode_from i (suc n) clauses atoms = decode_clause clauses atoms i ∷ decode_from (i + 1) n clauses atoms

-- the first n clauses
abbrev pub decode_clauses : ℕ → List ℕ → List ℕ → List (Option Clause)
decode_clauses n clauses atoms = decode_from 0 n clauses atoms

-- n deferrals from deferral i on, each its line and kind
unfoldable pub deferrals_from : ℕ → ℕ → List ℕ → List (ℕ × ℕ)
deferrals_from i zero w = []
deferrals_from i (suc n) w = (get_or w (2 * i) 0, get_or w (2 * i + 1) 0) ∷ deferrals_from (i + 1) n w

abbrev pub decode_deferrals : ℕ → List ℕ → List (ℕ × ℕ)
decode_deferrals n w = deferrals_from 0 n w
