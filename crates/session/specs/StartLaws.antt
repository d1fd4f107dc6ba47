-- What a start answers, by what the reader told of the deck. Assumes nothing.
use Rattle.std.specs.Prelude.{◌≡◌, refl, Bool, true, false, ◌&&◌, List, ℕ, ◌≤◌, eqb, length, Ok, Err}
use Rattle.std.proofs.Common.{sym, ap, eqb-true, le-leb}
use Rattle.std.proofs.lemmas.Bool.{and_parts}
use Rattle.ir.specs.Pick.{pick}
use Rattle.ir.specs.Refusals.{refusal_number}
use Rattle.ir.specs.declared.answer.Refused.{Refused as Refusing}
use Rattle.rules.specs.Deck.{most_bytes, Told, fine, read_deck}
use Rattle.rules.specs.Deck as Deck
use Rattle.rules.specs.Run.{scratch_bytes}
use Rattle.spelling.specs.Decks.{deck_short}
use Rattle.deck.specs.declared.state.State.{State}
use Rattle.deck.specs.Records.{told_of}
use Rattle.session.specs.Session.{session_bytes, done, refused, started_as, start_of, scratch_ok, call_start, Done, said_of}
use Rattle.session.specs.Session as Session
use Rattle.session.specs.SaidLaws.{not_refused}

module _ (n scratch : ℕ) (deck t : List ℕ) (e : n ≡ session_bytes) (h : scratch_bytes ≤ scratch) where
  started : (x : Told) → x ≡ read_deck deck → call_start n deck scratch ≡ started_as deck x
  unfolding start_of
  started x q = rw (e, le-leb scratch_bytes scratch h, q) refl

  pub start_fine : (k : State) → told_of deck t (Ok k) ≡ read_deck deck → Done ≡ said_of (call_start n deck scratch)
  start_fine k q = ap said_of (sym (started (told_of deck t (Ok k)) q))

  pub start_refused : (r : Refusing) → told_of deck t (Err r) ≡ read_deck deck → Session.Refused (refusal_number r.refusal) r.line ≡ said_of (call_start n deck scratch)
  start_refused r q = ap said_of (sym (started (told_of deck t (Err r)) q))

-- a start that is done
pub record Begun (n : ℕ) (deck : List ℕ) (scratch : ℕ) : Type 0 where
  pub size : n ≡ session_bytes
  pub short : length deck ≤ most_bytes
  pub is : call_start n deck scratch ≡ done deck

pub begun_done : (n : ℕ) (deck : List ℕ) (scratch : ℕ) → Done ≡ said_of (call_start n deck scratch) → Begun n deck scratch
unfolding start_of
begun_done n deck scratch d = by (eqb n session_bytes && scratch_ok scratch) refl d
  where
    on : (x : Told) → read_deck deck ≡ x → (eqb n session_bytes && scratch_ok scratch) ≡ true → Done ≡ said_of (started_as deck x) → Begun n deck scratch
    on (Deck.refused k line) q b d = not_refused k line d
    on (fine k) q b d = record { size = eqb-true n session_bytes (and_parts (eqb n session_bytes) (scratch_ok scratch) b).0; short = deck_short deck k q; is = rw (b, q) refl }

    by : (b : Bool) → (eqb n session_bytes && scratch_ok scratch) ≡ b → Done ≡ said_of (pick b (started_as deck (read_deck deck)) (refused 1 0)) → Begun n deck scratch
    by true b d = on (read_deck deck) refl b d
    by false b d = not_refused 1 0 d
