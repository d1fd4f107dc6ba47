-- A session: the live deck in a lent table, and what each call makes of it.
use Rattle.std.specs.Prelude.{Bool, true, false, ◌&&◌, List, [], ◌∷◌, ◌++◌, ℕ, zero, suc, ◌+◌, ◌*◌, ◌-◌, ◌^◌, length, get_or, take, drop, replicate, eqb, ltb, leb}
use Rattle.words.specs.Words.{words, bytes}
use Rattle.ir.specs.Pick.{pick}
use Rattle.ir.specs.Records.{same_words}
use Rattle.rules.specs.Text.{Row, row, broken_row, row_of}
use Rattle.rules.specs.Deck.{most_bytes, section_of, Header, Known, verdict, nothing, Told, fine, read_deck, axiom_line}
use Rattle.rules.specs.Deck as Deck
use Rattle.rules.specs.Run.{Lengths, Outcome, Run}
use Rattle.rules.specs.Run as Run
use Rattle.rules.specs.Lister.{fields_text}

-- ---- the table: the live deck's length, its bytes, then zeros
abbrev pub session_bytes : ℕ
session_bytes = 65540

unfoldable pub stored : List ℕ → List ℕ
stored deck = bytes (length deck ∷ []) ++ (deck ++ replicate (most_bytes - length deck) 0)

abbrev pub zeros : List ℕ → List ℕ
zeros s = replicate (length s) 0

abbrev pub deck_in : List ℕ → List ℕ
deck_in s = take (get_or (words s) 0 0) (drop 4 s)

-- what a session holds: a deck that passes the line checks, and what is known of it
pub data Holding : Type 0 where
  holds : List ℕ → Known → Holding
  no_deck : Holding

abbrev pub holding_as : List ℕ → Told → Holding
holding_as deck (fine d) = holds deck d
holding_as deck (Deck.refused k line) = no_deck

-- every byte is as a deck leaves it
abbrev pub is_stored : List ℕ → Bool
is_stored s = eqb (length s) session_bytes && same_words s (stored (deck_in s))

unfoldable pub held_in : List ℕ → Holding
held_in s = pick (is_stored s) (holding_as (deck_in s) (read_deck (deck_in s))) no_deck

-- ---- what a call answers: the live deck after it, or a refusal
pub data Did : Type 0 where
  done : List ℕ → Did
  refused : ℕ → ℕ → Did

-- the deck that a call would leave, by what its checks say: 0, or the number of a refusal on that line
abbrev pub checked : ℕ → ℕ → List ℕ → Did
checked v line deck = pick (eqb v 0) (done deck) (refused v line)

-- ---- start: from any deck that passes the line checks
abbrev pub started_as : List ℕ → Told → Did
started_as deck (fine d) = done deck
started_as deck (Deck.refused k line) = refused k line

unfoldable pub start_of : List ℕ → Did
start_of deck = started_as deck (read_deck deck)

-- ---- add: checked as the deck's last line
abbrev pub last_line : Known → ℕ
last_line d = axiom_line d (length d.axioms)

abbrev pub is_nil : List ℕ → Bool
is_nil [] = true
is_nil (b ∷ s) = false

-- one line of kinds 21 to 36, then as any line
abbrev pub row_verdict : Known → Row → ℕ
row_verdict d broken_row = 2
row_verdict d (row r rest) = pick (is_nil rest && eqb (section_of (get_or r 0 0)) 4) (verdict d (get_or r 0 0) r) 3

abbrev pub text_verdict : Known → List ℕ → ℕ
text_verdict d [] = 3
text_verdict d (b ∷ s) = row_verdict d (row_of (b ∷ s))

unfoldable pub add_to : List ℕ → Known → List ℕ → Did
add_to deck d text = pick (ltb most_bytes (length deck + length text)) (refused 2 0) (checked (text_verdict d text) (last_line d) (deck ++ text))

-- ---- strike: the deck without one line, lines from 0
unfoldable pub without : ℕ → List ℕ → List ℕ
without k [] = []
without zero (b ∷ s) = pick (eqb b 10) s (without zero s)
without (suc k) (b ∷ s) = b ∷ pick (eqb b 10) (without k s) (without (suc k) s)

-- 15 where no axiom stands on that line
unfoldable pub strike_from : List ℕ → Known → ℕ → Did
strike_from deck d line = pick (leb (axiom_line d 0) line && ltb line (last_line d)) (done (without (line - 1) deck)) (refused 15 0)

-- ---- options: checked as the deck's header, which is then that line
abbrev pub header_row : Header → ℕ → List ℕ
header_row h n = 0 ∷ h.classes ∷ h.individuals ∷ h.roles ∷ n ∷ []

-- behind the first line
unfoldable pub after_line : List ℕ → List ℕ
after_line [] = []
after_line (b ∷ s) = pick (eqb b 10) s (after_line s)

unfoldable pub options_in : List ℕ → Known → ℕ → Did
options_in deck d n = checked (verdict nothing 0 (header_row d.header n)) 1 (fields_text (header_row d.header n) ++ after_line deck)

-- ---- the calls, with scratch of so many bytes: 1 first
abbrev pub on_holding : Holding → (List ℕ → Known → Did) → Did
on_holding (holds deck d) f = f deck d
on_holding no_deck f = refused 1 0

abbrev pub scratch_ok : ℕ → Bool
scratch_ok n = leb Run.scratch_bytes n

unfoldable pub live : List ℕ → ℕ → Holding
live s scratch = pick (scratch_ok scratch) (held_in s) no_deck

-- of a session's table that has n bytes
abbrev pub call_start : ℕ → List ℕ → ℕ → Did
call_start n deck scratch = pick (eqb n session_bytes && scratch_ok scratch) (start_of deck) (refused 1 0)

abbrev pub call_add : List ℕ → List ℕ → ℕ → Did
call_add s text scratch = on_holding (live s scratch) (λ deck d. add_to deck d text)

abbrev pub call_strike : List ℕ → ℕ → ℕ → Did
call_strike s line scratch = on_holding (live s scratch) (λ deck d. strike_from deck d line)

abbrev pub call_options : List ℕ → ℕ → ℕ → Did
call_options s n scratch = on_holding (live s scratch) (λ deck d. options_in deck d n)

-- a taking: a run of the live deck; it leaves the session
abbrev pub take_of : Holding → Lengths → Outcome
take_of (holds deck d) t = Run deck t
take_of no_deck t = Run.refused 1 0

abbrev pub call_take : List ℕ → Lengths → Outcome
call_take s t = take_of (held_in s) t

-- ---- the session's bytes after a call, and after a start
abbrev pub session_after : List ℕ → Did → List ℕ
session_after s (done deck) = stored deck
session_after s (refused k line) = s

abbrev pub session_started : List ℕ → Did → List ℕ
session_started s (done deck) = stored deck
session_started s (refused k line) = zeros s

-- ---- the reply: done, or a refusal's number and line; as one number, number × 2^32 + line
pub data Said : Type 0 where
  Done : Said
  Refused : ℕ → ℕ → Said

abbrev pub said_of : Did → Said
said_of (done deck) = Done
said_of (refused k line) = Refused k line

abbrev pub code_of_said : Said → ℕ
code_of_said Done = 0
code_of_said (Refused k line) = k * 2 ^ 32 + line
