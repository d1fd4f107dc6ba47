-- One line in the words v of scratch, and what the line reader says of the text.
use Rattle.std.specs.Prelude.{◌≡◌, true, List, [], ℕ, suc, ◌+◌, ◌*◌, ◌≤◌, ◌<◌, length, get_or, take, drop, Option, Some, None}
use Rattle.rules.specs.Text.{row, row_of}
use Rattle.rules.specs.Deck.{Known}
use Rattle.rules.specs.Run.{scratch_bytes}
use Rattle.states.specs.State.{State, state, Seen, seen, StateTold, bad, most_elements, line_ok, on_state_row, state_by, read_state}
use Rattle.sets.specs.Places.{line_at, line_words}
use Rattle.layouts.specs.declared.limits.Limits.{Limits}
use Rattle.layouts.specs.declared.line.First.{First}
use Rattle.layouts.specs.declared.line.Next.{Next}
use Rattle.layouts.specs.Read.{known_of}

-- the line of n numbers
abbrev pub line_in : List ℕ → ℕ → List ℕ
line_in v n = take n (drop line_at v)

-- the bytes of scratch have room for it
abbrev pub LineThere : List ℕ → ℕ → Type 0
LineThere scratch n = (scratch_bytes ≤ length scratch) × (n ≤ line_words)

-- what the checks know: the line before, and how many elements there are
abbrev pub before : ℕ → ℕ → ℕ → Seen
before kind id size = seen kind id (state size [] [] [])

-- the first word of the rows
abbrev pub rows_word : ℕ
rows_word = 131072

abbrev pub KeptFrom : ℕ → List ℕ → List ℕ → Type 0
KeptFrom a v v' = (i : ℕ) → a ≤ i → get_or v' i 0 ≡ get_or v i 0

-- the line at p, read: its n numbers stand in scratch, and the rows are as they were
pub record ReadLine (text : List ℕ) (p : ℕ) (v v' : List ℕ) (n q : ℕ) : Type 0 where
  pub few : n ≤ line_words
  pub count : length (line_in v' n) ≡ n
  pub read : row_of (drop p text) ≡ row (line_in v' n) (drop q text)
  pub behind : q ≡ p + 11 * n + 1
  pub within : q ≤ length text
  pub rows : KeptFrom rows_word v v'

-- there is none, or it is longer than any good one
abbrev pub NumbersAs : List ℕ → ℕ → List ℕ → List ℕ → Option Next → Type 0
NumbersAs text p v v' (Some l) = ReadLine text p v v' l.count l.behind
NumbersAs text p v v' None = (r bytes : List ℕ) → row_of (drop p text) ≡ row r bytes → line_words < length r

-- the first line, and the place behind it
pub record FirstLine (text : List ℕ) (n q : ℕ) : Type 0 where
  pub some : 0 < n
  pub few : n ≤ most_elements
  pub within : q ≤ length text
  pub read : (d : Known) (fresh : ℕ) → read_state d fresh text ≡ state_by (suc (length (drop q text))) d fresh 2 (before 50 0 n) (drop q text)

abbrev pub FirstAs : List ℕ → Option First → Type 0
FirstAs text (Some f) = FirstLine text f.size f.behind
FirstAs text None = (d : Known) (fresh : ℕ) → read_state d fresh text ≡ bad 1

-- a good line at p: its numbers stand in scratch, and the rows are as they were
pub record GoodLine (m : Limits) (kind id size : ℕ) (text : List ℕ) (p : ℕ) (v v' : List ℕ) (n q : ℕ) : Type 0 where
  pub some : 2 ≤ n
  pub few : n ≤ line_words
  pub read : row_of (drop p text) ≡ row (line_in v' n) (drop q text)
  pub fine : line_ok (known_of m) m.fresh (before kind id size) (line_in v' n) ≡ true
  pub onward : p + 12 ≤ q
  pub within : q ≤ length text
  pub rows : KeptFrom rows_word v v'

abbrev pub NextAs : Limits → ℕ → ℕ → ℕ → List ℕ → ℕ → List ℕ → List ℕ → Option Next → Type 0
NextAs m kind id size text p v v' (Some l) = GoodLine m kind id size text p v v' l.count l.behind
NextAs m kind id size text p v v' None =
    (rest : Seen → List ℕ → StateTold) (line : ℕ) (s : State) → s.size ≡ size → on_state_row (known_of m) m.fresh rest line (seen kind id s) (row_of (drop p text)) ≡ bad line
