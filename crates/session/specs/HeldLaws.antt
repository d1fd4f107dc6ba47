-- A session that a call leaves holds the deck that is then live; zeros hold none. Assumes nothing.
use Rattle.std.specs.Prelude.{◌≡◌, refl, Bool, true, ◌&&◌, List, ◌++◌, ℕ, ◌+◌, ◌*◌, ◌-◌, ◌/◌, ◌%◌, ◌≤◌, length, take, replicate}
use Rattle.std.proofs.Common.{ap, ap₂, ◌∙◌, arith, eq-eqb, length-append, take_at}
use Rattle.std.proofs.lemmas.List.{length-replicate}
use Rattle.words.specs.Words.{words, bytes}
use Rattle.ir.specs.Pick.{pick}
use Rattle.ir.specs.Records.{same_words}
use Rattle.ir.specs.RecordLaws.{same_words_refl}
use Rattle.rules.specs.Deck.{most_bytes, Known, fine, read_deck}
use Rattle.rules.specs.Run.{Lengths, Run}
use Rattle.spelling.specs.Decks.{deck_short}
use Rattle.session.specs.Session.{session_bytes, stored, deck_in, holds, no_deck, holding_as, is_stored, held_in, call_take}

pub word_is : (n : ℕ) → n ≤ most_bytes → n % 256 + 256 * (n / 256 % 256) + 65536 * (n / 65536 % 256) + 16777216 * (n / 16777216 % 256) ≡ n
word_is n h = omega arith

pub stored_deck : (deck : List ℕ) → length deck ≤ most_bytes → deck_in (stored deck) ≡ deck
unfolding stored bytes words
stored_deck deck h = ap (λ (n : ℕ). take n (deck ++ replicate (most_bytes - length deck) 0)) (word_is (length deck) h) ∙ take_at deck (replicate (most_bytes - length deck) 0) (length deck) refl

pub stored_long : (deck : List ℕ) → length deck ≤ most_bytes → length (stored deck) ≡ session_bytes
unfolding stored bytes
stored_long deck h = omega (arith, length-append deck (replicate (most_bytes - length deck) 0), length-replicate {0} {A = ℕ} (most_bytes - length deck) 0)

pub stored_is : (deck : List ℕ) → length deck ≤ most_bytes → is_stored (stored deck) ≡ true
stored_is deck h =
    ap₂ ◌&&◌ (eq-eqb (length (stored deck)) session_bytes (stored_long deck h))
    (ap (λ (z : List ℕ). same_words (stored deck) (stored z)) (stored_deck deck h) ∙ same_words_refl (stored deck))

pub held_stored : (deck : List ℕ) (d : Known) → read_deck deck ≡ fine d → held_in (stored deck) ≡ holds deck d
unfolding held_in
held_stored deck d e =
    let h : length deck ≤ most_bytes = deck_short deck d e in
    ap₂ (λ (b : Bool) (z : List ℕ). pick b (holding_as z (read_deck z)) no_deck) (stored_is deck h) (stored_deck deck h) ∙ ap (holding_as deck) e

-- a taking is a run of the live deck
pub take_stored : (deck : List ℕ) (d : Known) (t : Lengths) → read_deck deck ≡ fine d → call_take (stored deck) t ≡ Run deck t
take_stored deck d t e = rw (held_stored deck d e) refl
