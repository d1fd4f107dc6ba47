-- The axioms and the key marks of an accepted deck in the words w of scratch. An axiom is the numbers of its line.
use Rattle.std.specs.Prelude.{◌≡◌, Bool, true, not, List, ℕ, ◌+◌, ◌*◌, ◌<◌, ◌≤◌, get_or, eqb}
use Rattle.ir.specs.Scratch.{keys_at, axioms_at, numbers_at, lines_at}
use Rattle.rules.specs.Base.{contains}
use Rattle.rules.specs.Concept.{Axiom}
use Rattle.rules.specs.Deck.{most_classes, most_axioms, section_of, fields_ok, axiom_of}
use Rattle.pool.specs.Layout.{tab, run}

-- where the numbers of axiom i begin, and how many they are
abbrev pub axiom_start : List ℕ → ℕ → ℕ
axiom_start w i = get_or w (axioms_at + 2 * i) 0

abbrev pub axiom_count : List ℕ → ℕ → ℕ
axiom_count w i = get_or w (axioms_at + 2 * i + 1) 0

-- number j of axiom i; the first is its kind
abbrev pub axiom_number : List ℕ → ℕ → ℕ → ℕ
axiom_number w i j = get_or w (numbers_at + axiom_start w i + j) 0

abbrev pub axiom_row : List ℕ → ℕ → List ℕ
axiom_row w i = run w (numbers_at + axiom_start w i) (axiom_count w i)

abbrev pub axiom_at : List ℕ → ℕ → Axiom
axiom_at w i = axiom_of (axiom_number w i 0) (axiom_row w i)

-- the first n axioms
abbrev pub axioms_of : List ℕ → ℕ → List Axiom
axioms_of w n = tab (axiom_at w) 0 n

-- each is a line of its kind, and their numbers follow one another
pub record AxiomsHeld (w : List ℕ) (n : ℕ) : Type 0 where
  pub few : n ≤ most_axioms
  pub within : (i : ℕ) → i < n → numbers_at + axiom_start w i + axiom_count w i ≤ lines_at
  pub apart : (i j : ℕ) → i < j → j < n → axiom_start w i + axiom_count w i ≤ axiom_start w j
  pub kinds : (i : ℕ) → i < n → section_of (axiom_number w i 0) ≡ 4
  pub fields : (i : ℕ) → i < n → fields_ok (axiom_number w i 0) (axiom_count w i) ≡ true

-- the key marks
abbrev pub is_key : List ℕ → ℕ → Bool
is_key w a = not (eqb (get_or w (keys_at + a) 0) 0)

pub record KeysHeld (w : List ℕ) (keys : List ℕ) : Type 0 where
  pub marked : (a : ℕ) → a < most_classes → is_key w a ≡ contains keys a
