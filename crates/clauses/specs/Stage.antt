-- The text that the program prints for a deck, from the rules.
use Rattle.std.specs.Prelude.{◌≡◌, List, [], ◌∷◌, ◌++◌, ℕ, ◌*◌, length, take}
use Rattle.ir.specs.Deferrals.{deferral_kind}
use Rattle.rules.specs.Pool.{members}
use Rattle.rules.specs.State.{Rooms, Deferred, total}
use Rattle.rules.specs.Axioms.{Clausifier}
use Rattle.rules.specs.Deck.{Told, fine, refused}
use Rattle.rules.specs.Run.{Lined, done, stopped, deferral_words, deferral_records}
use Rattle.rules.specs.Lister.{fields_text, clauses_text}
use Rattle.staging.specs.Stage.{staged}

unfoldable pub deferrals_text : List Deferred → List ℕ
deferrals_text [] = []
deferrals_text (d ∷ l) = fields_text (45 ∷ d.line ∷ deferral_kind d.kind ∷ []) ++ deferrals_text l

-- clauses, atoms, deferrals, the next fresh class, visits, concepts and list members
abbrev pub sums_line : Clausifier → List ℕ
sums_line z = 44 ∷ length z.out.clauses ∷ total z.out.clauses ∷ length z.out.deferrals ∷ z.out.next_fresh ∷ z.out.visits ∷ length z.pool ∷ members z.pool ∷ []

abbrev pub state_text : Clausifier → List ℕ
state_text z = clauses_text 0 z.out.clauses ++ (deferrals_text z.out.deferrals ++ fields_text (sums_line z))

abbrev pub refusal_text : ℕ → ℕ → List ℕ
refusal_text e line = fields_text (49 ∷ e ∷ line ∷ [])

abbrev pub lined_text : Lined Clausifier (Unit {0}) → List ℕ
lined_text (done _ z) = state_text z
lined_text (stopped e line) = refusal_text e line

abbrev pub most_visits : ℕ
most_visits = 1000000

abbrev pub lent : Rooms
lent = record { clauses = 1024; atoms = 2048; deferrals = 256 }

-- of what was read
abbrev pub stage_text : Told → List ℕ
stage_text (fine d) = lined_text (staged most_visits lent d)
stage_text (refused e line) = refusal_text e line

-- the bytes of the longest text: 45 for each clause, 78 for each atom, 34 for each deferral, and the last line
abbrev pub most_text : ℕ
most_text = 214617

-- a table that begins with the records of the deferrals l
pub record Deferring (d : List ℕ) (n : ℕ) (l : List Deferred) : Type 0 where
  pub count : n ≡ length l
  pub records : take (deferral_words * n) d ≡ deferral_records l
