-- The calls' answers as the code gives them, and what the reader leaves in scratch of a session that holds a deck.
use Rattle.std.specs.Prelude.{◌≡◌, List, ℕ, ◌≤◌, length, Option, Some, None, Result, Ok, Err}
use Prim.{Unit}
use Rattle.ir.specs.Refusals.{refusal_number}
use Rattle.ir.specs.declared.answer.Refused.{Refused as Refusing}
use Rattle.rules.specs.Deck.{most_bytes, most_concept_lines, most_axioms, fine, read_deck}
use Rattle.deck.specs.declared.state.State.{State}
use Rattle.deck.specs.Records as reader
use Rattle.session.specs.Session.{Said, Done, stored, deck_in, holds, no_deck, live}
use Rattle.session.specs.Session as Session

abbrev pub told_said : Result (Unit {0}) Refusing → Said
told_said (Ok _) = Done
told_said (Err e) = Session.Refused (refusal_number e.refusal) e.line

-- a session s that holds a deck, its records in t, and what the reader knows of it
pub record Live (s t : List ℕ) (n : ℕ) (k : State) : Type 0 where
  pub is : live s n ≡ holds (deck_in s) (reader.known_in (deck_in s) t k)
  pub form : s ≡ stored (deck_in s)
  pub read : read_deck (deck_in s) ≡ fine (reader.known_in (deck_in s) t k)
  pub held : reader.Held (deck_in s) t k (length (deck_in s))

-- with scratch of n bytes
abbrev pub LiveAs : List ℕ → List ℕ → ℕ → Option State → Type 0
LiveAs s t n (Some k) = Live s t n k
LiveAs s t n None = live s n ≡ no_deck

-- so many lines as a deck may have
pub record Counts (k : State) : Type 0 where
  pub keys : k.keys ≤ most_bytes
  pub concepts : k.concepts ≤ most_concept_lines
  pub axioms : k.axioms ≤ most_axioms
