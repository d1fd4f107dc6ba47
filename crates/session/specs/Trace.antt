-- A day's calls on a session: what they make of its bytes, and what of the deck's content, call by call. A taking is none of them: it only
-- reads the session.
use Rattle.std.specs.Prelude.{◌≡◌, Bool, true, false, List, [], ◌∷◌, ◌++◌, ℕ, ◌+◌, ◌-◌, length, get_or, take, drop}
use Rattle.ir.specs.Pick.{pick}
use Rattle.rules.specs.Text.{Row, row, broken_row, row_of}
use Rattle.rules.specs.Concept.{Concept, Axiom}
use Rattle.rules.specs.Deck.{axiom_of, Header, Known, fine, read_deck}
use Rattle.rules.specs.Run.{Lengths, Run}
use Rattle.session.specs.Session.{stored, call_take, Did, done, refused, call_add, call_strike, call_options, session_after}

-- a call, with its scratch's bytes
pub data Call : Type 0 where
  add : List ℕ → ℕ → Call
  strike : ℕ → ℕ → Call
  options : ℕ → ℕ → Call

abbrev pub did : Call → List ℕ → Did
did (add text n) s = call_add s text n
did (strike line n) s = call_strike s line n
did (options o n) s = call_options s o n

-- ---- the session's bytes
abbrev pub after_call : Call → List ℕ → List ℕ
after_call c s = session_after s (did c s)

unfoldable pub after_calls : List Call → List ℕ → List ℕ
after_calls [] s = s
after_calls (c ∷ l) s = after_calls l (after_call c s)

-- ---- the deck's content
pub record Content : Type 0 where
  pub header : Header
  pub keys : List ℕ
  pub concepts : List Concept
  pub axioms : List Axiom

abbrev pub content : Known → Content
content d = record { header = d.header; keys = d.keys; concepts = d.concepts; axioms = d.axioms }

-- the axiom that a line says
abbrev pub axiom_said : Row → Axiom
axiom_said broken_row = axiom_of 0 []
axiom_said (row r rest) = axiom_of (get_or r 0 0) r

-- all but the one at place i
abbrev pub but : {A : Type 0} → ℕ → List A → List A
but i l = take i l ++ drop (i + 1) l

abbrev pub with_axioms : Content → List Axiom → Content
with_axioms b l = record { header = b.header; keys = b.keys; concepts = b.concepts; axioms = l }

-- the line of the first axiom
abbrev pub first_line : Content → ℕ
first_line b = 2 + length b.keys + length b.concepts

-- what a call that is done makes of it: an axiom at the end, one less, or other options
abbrev pub effect : Call → Content → Content
effect (add text n) b = with_axioms b (b.axioms ++ (axiom_said (row_of text) ∷ []))
effect (strike line n) b = with_axioms b (but (line - first_line b) b.axioms)
effect (options o n) b = record {
  header = record { classes = b.header.classes; individuals = b.header.individuals; roles = b.header.roles; options = o };
  keys = b.keys;
  concepts = b.concepts;
  axioms = b.axioms;
}

abbrev pub is_done : Did → Bool
is_done (done deck) = true
is_done (refused k line) = false

-- a refused call leaves it
abbrev pub content_after : Call → List ℕ → Content → Content
content_after c s b = pick (is_done (did c s)) (effect c b) b

unfoldable pub content_afters : List Call → List ℕ → Content → Content
content_afters [] s b = b
content_afters (c ∷ l) s b = content_afters l (after_call c s) (content_after c s b)

-- s holds a deck with the content b
pub record Holds (s : List ℕ) (b : Content) : Type 0 where
  pub deck : List ℕ
  pub known : Known
  pub is : s ≡ stored deck
  pub read : read_deck deck ≡ fine known
  pub what : content known ≡ b
  pub takings : (t : Lengths) → call_take s t ≡ Run deck t
