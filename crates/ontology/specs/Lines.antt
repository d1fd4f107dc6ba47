-- The lines of an accepted deck s, as the reader's table gives them, and what of them stands in the words w of scratch.
use Rattle.std.specs.Prelude.{◌≡◌, List, [], ◌∷◌, ℕ, ◌+◌, ◌*◌, ◌-◌, ◌<◌, ◌≤◌, length, get_or, take, drop, eqb, ltb, Result}
use Rattle.std.proofs.Math.Option.{none}
use Rattle.std.proofs.lemmas.List.Edits.{sets}
use Rattle.ir.specs.Pick.{pick}
use Rattle.ir.specs.Scratch.{axioms_at, numbers_at, lines_at, stack_at}
use Rattle.ir.specs.Counts.{counters}
use Rattle.ir.specs.declared.counters.Counters.{Counters}
use Rattle.rules.specs.Concept.{concept_row}
use Rattle.rules.specs.Pool.{most_members, find, members}
use Rattle.rules.specs.Deck.{most_bytes, most_classes, most_individuals, most_options, most_concept_lines, most_axioms, parts_of, fine, read_deck}
use Rattle.rules.specs.Invariants.{Each}
use Rattle.text.specs.Rows.{row_at}
use Rattle.ir.specs.declared.answer.Refused.{Refused}
use Rattle.deck.specs.declared.row.Line.{Line}
use Rattle.deck.specs.declared.state.State.{State}
use Rattle.deck.specs.Records as reader
use Rattle.pool.specs.declared.record.Record.{Record}
use Rattle.pool.specs.Layout.{pool_words, run, record_words, pool_of}
use Rattle.pool.specs.Held.{Held}
use Rattle.pool.specs.Answers.{sized}

-- the words from a on and below b are as they were
abbrev pub Kept : ℕ → ℕ → List ℕ → List ℕ → Type 0
Kept a b w w' = (i : ℕ) → a ≤ i → i < b → get_or w' i 0 ≡ get_or w i 0

-- ---- the reader's table: of scratch's bytes, and of its words
abbrev pub table_words : ℕ
table_words = 7168

unfoldable pub table_in : List ℕ → List ℕ
table_in s = take reader.table_bytes (drop (4 * lines_at) s)

abbrev pub table_of : List ℕ → List ℕ
table_of w = run w lines_at table_words

abbrev pub concept_line : List ℕ → ℕ → Line
concept_line v i = record { begin = get_or v (3 * i) 0; fields = get_or v (3 * i + 1) 0 }

abbrev pub axiom_line : List ℕ → ℕ → Line
axiom_line v i = record { begin = get_or v (reader.axioms_at + 2 * i) 0; fields = reader.axiom_fields v i }

-- the reader's answer, with the bytes t of its table
pub record Answered (s t : List ℕ) (a : Result State Refused) : Type 0 where
  pub told : reader.told_of s t a ≡ read_deck s
  pub kept : reader.Kept s t a

-- that of an accepted deck
pub record Accepted (s t : List ℕ) (k : State) : Type 0 where
  pub read : read_deck s ≡ fine (reader.known_in s t k)
  pub held : reader.Held s t k (length s)

-- a line that lies in the deck
pub record LineIn (s : List ℕ) (l : Line) : Type 0 where
  pub small : length s ≤ most_bytes
  pub within : l.begin + 11 * l.fields ≤ length s
  pub numbers : reader.Numbers (row_at s l.begin l.fields)

-- the header's numbers and the counts of lines fit the counters
pub record Declared (k : State) : Type 0 where
  pub classes : k.classes ≤ most_classes
  pub individuals : k.individuals ≤ most_individuals
  pub options : k.options ≤ most_options
  pub keys : k.keys ≤ most_bytes
  pub concepts : k.concepts ≤ most_concept_lines

-- the counters before the first concept
abbrev pub started : State → ℕ → Counters
started k limit = counters 0 limit 0 0 1 (k.classes + k.individuals) 0 0 0 (k.keys + k.concepts + 2) k.classes k.options

-- ---- concepts
-- the record of a line of n numbers: its kind and, where the line has them, the next three
abbrev pub record_for : ℕ → ℕ → ℕ → ℕ → ℕ → Record
record_for k a b c n =
    pick (ltb k 3) (record_words k 0 0 0)
    (pick (ltb k 5) (record_words k 0 a 0)
    (pick (eqb k 5) (record_words k a 0 0)
    (pick (eqb k 6) (record_words k 0 0 a)
    (pick (ltb k 9) (record_words k 0 (n - 1) 0)
    (pick (ltb k 11) (record_words k a 0 b) (record_words k b a c))))))

-- by the table's words v, concept line i may be record i
pub record ConceptRead (s v : List ℕ) (i : ℕ) : Type 0 where
  pub few : i < most_concept_lines
  pub line : LineIn s (concept_line v i)
  pub row : concept_row (reader.concept_at (reader.row_in s v i)) ≡ reader.row_in s v i
  pub below : Each (λ d. d < i) (parts_of (reader.concept_at (reader.row_in s v i)))
  pub fresh : find (reader.concept_at (reader.row_in s v i)) (reader.concepts_in s v i) ≡ none
  pub space : members (reader.concepts_in s v (i + 1)) ≤ most_members

-- the first i of them are the pool; what stands between the pool and the stack was left alone
pub record Pooled (s v : List ℕ) (k₀ : Counters) (i : ℕ) (w₀ w : List ℕ) (k : Counters) : Type 0 where
  pub counters : k ≡ sized k₀ (reader.concepts_in s v i)
  pub held : Held w k.concepts k.members
  pub pool : pool_of w k.concepts ≡ reader.concepts_in s v i
  pub kept : Kept pool_words stack_at w₀ w

-- ---- axioms
pub record AxiomRead (s v : List ℕ) (i : ℕ) : Type 0 where
  pub few : i < most_axioms
  pub line : LineIn s (axiom_line v i)
  pub row : reader.AxiomLine (reader.axiom_row_in s v i)

-- the numbers r of axiom i, from number `at` on
abbrev pub axiom_put : List ℕ → ℕ → ℕ → List ℕ → List ℕ
axiom_put w i at r = sets (sets w (axioms_at + 2 * i) (at ∷ length r ∷ [])) (numbers_at + at) r
