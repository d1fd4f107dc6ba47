-- What a session that is read holds. Assumes nothing.
use Rattle.std.specs.Prelude.{◌≡◌, refl, Bool, true, false, List, ℕ, ◌<◌, ◌≤◌, eqb, leb, length, Option, Some, None, Result, Ok, Err}
use Rattle.std.proofs.Common.{sym, ap, ◌∙◌, subst, arith, le-leb, leb-true}
use Rattle.std.proofs.lemmas.Bool.{and_parts}
use Rattle.std.specs.Option.{ok_or}
use Rattle.std.specs.Result.{result_ok}
use Rattle.ir.specs.Pick.{pick}
use Rattle.ir.specs.Records.{same_words}
use Rattle.ir.specs.RecordLaws.{same_words_lem}
use Rattle.ir.specs.Refusals.{refusal_number}
use Rattle.ir.specs.declared.answer.Refused.{Refused as Refusing}
use Rattle.rules.specs.Deck.{Told, read_deck}
use Rattle.rules.specs.Deck as Deck
use Rattle.rules.specs.Run.{scratch_bytes}
use Rattle.deck.specs.declared.state.State.{State}
use Rattle.deck.specs.Records.{told_of, Kept}
use Rattle.session.specs.Session.{session_bytes, stored, deck_in, no_deck, holding_as, is_stored, held_in, scratch_ok, live}
use Rattle.session.specs.Told.{Live, LiveAs, Counts}

pub live_short : (s : List ℕ) (n : ℕ) → n < scratch_bytes → live s n ≡ no_deck
unfolding live
live_short s n h = ap (λ (b : Bool). pick b (held_in s) no_deck) (by (leb scratch_bytes n) refl)
  where
    by : (b : Bool) → leb scratch_bytes n ≡ b → leb scratch_bytes n ≡ false
    by false q = q
    by true q = absurd (omega (arith, leb-true scratch_bytes n q))

pub live_unstored : (s : List ℕ) (n : ℕ) → is_stored s ≡ false → live s n ≡ no_deck
unfolding live held_in
live_unstored s n h = rw h (by (scratch_ok n))
  where
    by : (b : Bool) → pick b no_deck no_deck ≡ no_deck
    by true = refl
    by false = refl

stored_same : (s : List ℕ) → is_stored s ≡ true → s ≡ stored (deck_in s)
stored_same s h = same_words_lem s (stored (deck_in s)) (and_parts (eqb (length s) session_bytes) (same_words s (stored (deck_in s))) h).1

live_is : (s : List ℕ) (n : ℕ) (x : Told) → scratch_bytes ≤ n → is_stored s ≡ true → x ≡ read_deck (deck_in s) → live s n ≡ holding_as (deck_in s) x
unfolding live held_in
live_is s n x h k e = rw (le-leb scratch_bytes n h, k, e) refl

-- as the reader answers
pub live_read : (s t deck : List ℕ) (n : ℕ) (r : Result State Refusing) → scratch_bytes ≤ n → is_stored s ≡ true → deck ≡ deck_in s → told_of deck t r ≡ read_deck deck → Kept deck t r → LiveAs s t n (result_ok r)
live_read s t deck n (Ok k) h i d e K =
    let E : told_of (deck_in s) t (Ok k) ≡ read_deck (deck_in s) = rw d at e in
    record { is = live_is s n (told_of (deck_in s) t (Ok k)) h i E; form = stored_same s i; read = sym E; held = rw d at K }
live_read s t deck n (Err r) h i d e K = live_is s n (Deck.refused (refusal_number r.refusal) r.line) h i (rw d at e)

-- what the counts of a session's lines are
pub live_counts : (s t : List ℕ) (n : ℕ) (k : State) → Live s t n k → Counts k
live_counts s t n k L = record { keys = omega (arith, L.held.keys, L.held.small); concepts = L.held.concepts.few; axioms = L.held.few }

-- of the answer that becomes a refusal where there is no deck
some_of : (o : Option State) (e : Refusing) (k : State) → ok_or o e ≡ Ok k → o ≡ Some k
some_of (Some x) e k q = cc
some_of None e k q = cc

pub live_of : {s t : List ℕ} {n : ℕ} {k : State} {r : Result State Refusing} (o : Option State) (e : Refusing) → r ≡ ok_or o e → r ≡ Ok k → LiveAs s t n o → Live s t n k
live_of {s} {t} {n} {k} {r} o e p q l = subst (λ (x : Option State). LiveAs s t n x) (some_of o e k (sym p ∙ q)) l
