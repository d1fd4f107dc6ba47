-- How the rules' state stands in the counters and in the words of the three lent tables: the records, then zeros.
use Rattle.std.specs.Prelude.{◌≡◌, Bool, false, List, ◌++◌, ℕ, ◌+◌, ◌*◌, ◌-◌, ◌/◌, ◌≤◌, ◌<◌, ◌&&◌, length, replicate, ltb, leb, Result, Ok, Err}
use Prim.{Unit}
use Rattle.ir.specs.Counts.{counters}
use Rattle.ir.specs.declared.counters.Counters.{Counters}
use Rattle.ir.specs.declared.refusal.Refusal.{Refusal}
use Rattle.ir.specs.declared.refusal.Refusal.TheVariants.{NoRoom}
use Rattle.ir.specs.Answer.{Answer}
use Rattle.ir.specs.Answer.{Done, Refused}
use Rattle.rules.specs.Base.{Res, ok, refused}
use Rattle.rules.specs.State.{Rooms, Out, total}
use Rattle.rules.specs.Run.{clause_words, atom_words, deferral_words, clause_records, atom_records, deferral_records, most_clauses, most_atoms, most_deferrals}

-- n words: these, then zeros
unfoldable pub padded : ℕ → List ℕ → List ℕ
padded n l = l ++ replicate (n - length l) 0

-- the counters and the words of the clause, atom and deferral tables
pub data Tables : Type 0 where
  tables : Counters → List ℕ → List ℕ → List ℕ → Tables

abbrev pub counters_in : Tables → Counters
counters_in (tables k c a d) = k

abbrev pub clauses_in : Tables → List ℕ
clauses_in (tables k c a d) = c

abbrev pub atoms_in : Tables → List ℕ
atoms_in (tables k c a d) = a

abbrev pub deferrals_in : Tables → List ℕ
deferrals_in (tables k c a d) = d

-- the counters of a state; what a state does not have is k's
abbrev pub counters_of : Counters → Out → Counters
counters_of k s = counters s.visits s.limit k.concepts k.members s.next_var s.next_fresh (length s.clauses) (total s.clauses) (length s.deferrals) s.line k.nominal_base k.options

unfoldable pub show : Counters → Rooms → Out → Tables
show k rooms s = tables (counters_of k s) (padded (clause_words * rooms.clauses) (clause_records 0 s.clauses)) (padded (atom_words * rooms.atoms) (atom_records s.clauses)) (padded (deferral_words * rooms.deferrals) (deferral_records s.deferrals))

-- a rule's answer, drawn; n: the number that the code answers with
abbrev pub shown : {A : Type 0} → (A → ℕ) → Counters → Rooms → Res Out A → Res Tables ℕ
shown n k rooms (ok a s) = ok (n a) (show k rooms s)
shown n k rooms (refused e) = refused e

-- the code's answer, with the tables' words at exit
abbrev pub after : Answer → List ℕ → List ℕ → List ℕ → Res Tables ℕ
after (Done k i) c a d = ok i (tables k c a d)
after (Refused e) c a d = refused e

-- tables of these words have these rooms
pub record Lent (rooms : Rooms) (c a d : List ℕ) : Type 0 where
  pub clauses : length c ≡ clause_words * rooms.clauses
  pub atoms : length a ≡ atom_words * rooms.atoms
  pub deferrals : length d ≡ deferral_words * rooms.deferrals

-- tables of so many bytes, and no more records than document 01 allows
pub record Sized (c a d : ℕ) : Type 0 where
  pub clauses : c ≤ 4 * clause_words * most_clauses
  pub atoms : a ≤ 4 * atom_words * most_atoms
  pub deferrals : d ≤ 4 * deferral_words * most_deferrals

-- tables of c and a bytes have room for one clause more, of n atoms; the code's answer to that
abbrev pub roomy : ℕ → ℕ → Counters → ℕ → Bool
roomy c a k n = ltb k.clauses (c / (4 * clause_words)) && leb (k.atoms + n) (a / (4 * atom_words))

abbrev pub Roomed : ℕ → ℕ → Counters → ℕ → Result (Unit {0}) Refusal → Type 0
Roomed c a k n (Ok u) = (k.clauses < c / (4 * clause_words)) × (k.atoms + n ≤ a / (4 * atom_words))
Roomed c a k n (Err e) = (e ≡ NoRoom) × (roomy c a k n ≡ false)
