-- A text that is to be an axiom's line, as the code checks it; and a deck with it behind. Assumes nothing.
use Rattle.std.specs.Prelude.{◌≡◌, refl, Bool, true, false, ◌&&◌, List, [], ◌∷◌, ◌++◌, ℕ, zero, suc, ◌+◌, ◌*◌, ◌-◌, ◌<◌, ◌≤◌, eqb, ltb, length, get_or, take, drop, replicate, Option, Some, None, Result, Ok, Err}
use Rattle.std.proofs.Common.{sym, ap, ap₂, ◌∙◌, arith, length-append, length-drop, drop_at, take_at, append_assoc, lt-ltb, le-ltb, ltb-false, ne_eqb, drop_of_length-le, drop-drop}
use Rattle.std.proofs.lemmas.List.{drop-replicate}
use Rattle.std.specs.Prelude.{MatchResult, IsErrAnd}
use Prim.{Unit}
use borrow.Rule.Slice.PartMut.{put_mid}
use Rattle.words.specs.Words.{words, bytes}
use Rattle.ir.specs.Pick.{pick}
use Rattle.ir.specs.Refusals.{refusal_number}
use Rattle.ir.specs.declared.refusal.Refusal.{Refusal}
use Rattle.ir.specs.declared.answer.Refused.{Refused as Refusing}
use Rattle.rules.specs.Text.{row, broken_row, row_of}
use Rattle.rules.specs.Deck.{most_bytes, section_of, Known, verdict}
use Rattle.text.specs.Rows.{row_at, line_of}
use Rattle.deck.specs.declared.state.Section.{Section}
use Rattle.deck.specs.declared.state.Section.TheVariants.{Header, Keys, Concepts, Axioms}
use Rattle.deck.specs.declared.state.State.{State}
use Rattle.deck.specs.Records.{section_number, verdict_number, behind_line, known_in}
use Rattle.deck.proofs.LineLaws.{refusal_some}
use Rattle.session.specs.Session.{stored, deck_in, done, refused, checked, last_line, is_nil, row_verdict, text_verdict, add_to, on_holding, Holding, call_add, said_of, Done}
use Rattle.session.specs.Session as Session
use Rattle.session.specs.Told.{told_said, Live}
use Rattle.session.specs.SaidLaws.{not_refused}
use Rattle.session.specs.FormLaws.{put_in, drop_word, session_word}

-- ---- one line
nil_behind : (s : List ℕ) (k : ℕ) → length s ≤ k → is_nil (drop k s) ≡ true
nil_behind s k h = rw (drop_of_length-le s h) refl

more_behind : (s : List ℕ) (k : ℕ) → k < length s → is_nil (drop k s) ≡ false
more_behind s k h = go (drop k s) (omega (arith, length-drop k s))
  where
    go : (t : List ℕ) → 0 < length t → is_nil t ≡ false
    go [] h = absurd (omega arith)
    go (b ∷ t) h = refl

module _ (d : Known) (s : List ℕ) (n : ℕ) (some : 0 < length s) where
  -- by the count of its fields
  as_row : row_of s ≡ row (row_at s 0 n) (drop (0 + 11 * n + 1) s) → text_verdict d s ≡ pick (is_nil (drop (0 + 11 * n + 1) s) && eqb (section_of (get_or (row_at s 0 n) 0 0)) 4) (verdict d (get_or (row_at s 0 n) 0 0) (row_at s 0 n)) 3
  as_row e = go s some e
    where
      go : (s : List ℕ) → 0 < length s → {r rest : List ℕ} → row_of s ≡ row r rest → text_verdict d s ≡ row_verdict d (row r rest)
      go [] h e = absurd (omega arith)
      go (b ∷ s) h e = ap (row_verdict d) e

  module _ (few : 0 < n) (e : line_of s 0 n ≡ row_of (drop 0 s)) where
    read : row_of s ≡ row (row_at s 0 n) (drop (0 + 11 * n + 1) s)
    read = sym e ∙ ap (λ (b : Bool). pick b broken_row (row (row_at s 0 n) (drop (0 + 11 * n + 1) s))) (ne_eqb n 0 (λ z. omega arith))

    -- more than the line
    pub text_more : (k : ℕ) → k ≡ 0 + 11 * n + 1 → k < length s → 3 ≡ text_verdict d s
    text_more k q h = sym (as_row read ∙ (let m : is_nil (drop (0 + 11 * n + 1) s) ≡ false = more_behind s (0 + 11 * n + 1) (omega (arith, q)) in rw m refl))

    -- another kind
    pub text_other : (section_of (get_or (row_at s 0 n) 0 0) ≡ 4 → ⊥) → 3 ≡ text_verdict d s
    text_other h = sym (as_row read ∙ rw (ne_eqb (section_of (get_or (row_at s 0 n) 0 0)) 4 h) (by (is_nil (drop (0 + 11 * n + 1) s))))
      where
        by : (b : Bool) → pick (b && false) (verdict d (get_or (row_at s 0 n) 0 0) (row_at s 0 n)) 3 ≡ 3
        by true = refl
        by false = refl

    -- the line of an axiom
    pub text_line : length s ≤ 0 + 11 * n + 1 → section_of (get_or (row_at s 0 n) 0 0) ≡ 4 → verdict d (get_or (row_at s 0 n) 0 0) (row_at s 0 n) ≡ text_verdict d s
    text_line h f = sym (as_row read ∙ rw (nil_behind s (0 + 11 * n + 1) h, f) refl)

  -- no line
  pub text_broken : broken_row ≡ row_of (drop 0 s) → 2 ≡ text_verdict d s
  text_broken e = go s some e
    where
      go : (s : List ℕ) → 0 < length s → broken_row ≡ row_of s → 2 ≡ text_verdict d s
      go [] h e = absurd (omega arith)
      go (b ∷ s) h e = ap (row_verdict d) e

-- behind the first three checks nothing is asked of an axiom
pub behind_axiom : (d : Known) (k : ℕ) (r : List ℕ) (v : ℕ) → section_of k ≡ 4 → behind_line d k r v ≡ v
behind_axiom d k r zero e = rw e refl
behind_axiom d k r (suc v) e = rw (ne_eqb (suc v) 0 (λ z. omega arith)) refl

-- of an axiom's section
pub axioms_section : (x : Option Section) → section_number x ≡ 4 → x ≡ Some Axioms
axioms_section None e = absurd (omega arith)
axioms_section (Some Header) e = absurd (omega arith)
axioms_section (Some Keys) e = absurd (omega arith)
axioms_section (Some Concepts) e = absurd (omega arith)
axioms_section (Some Axioms) e = refl

-- ---- behind a deck
pub too_long : (deck : List ℕ) (d : Known) (text : List ℕ) → most_bytes < length deck + length text → Session.Refused 2 0 ≡ said_of (add_to deck d text)
unfolding add_to
too_long deck d text h = rw (lt-ltb most_bytes (length deck + length text) h) refl

pub fits : (deck : List ℕ) (d : Known) (text : List ℕ) → length deck + length text ≤ most_bytes → add_to deck d text ≡ checked (text_verdict d text) (last_line d) (deck ++ text)
unfolding add_to
fits deck d text h = rw (le-ltb most_bytes (length deck + length text) h) refl

-- m is v, with the line of a refusal
pub told_checked : (v : Result (Unit {0}) Refusal) (m : Result (Unit {0}) Refusing) (line n : ℕ) (deck : List ℕ) (Q : Refusal → Refusing → Type 0) → ((r : Refusal) (d : Refusing) → Q r d → d ≡ record { refusal = r; line = line })
    → MatchResult v (λ x. m ≡ Ok x) (λ r. IsErrAnd m (Q r)) → verdict_number v ≡ n → told_said m ≡ said_of (checked n line deck)
told_checked (Ok x) m line n deck Q g h e = rw (h, ← e) refl
told_checked (Err r) (Ok x) line n deck Q g h e = absurd h
told_checked (Err r) (Err d) line n deck Q g h e = rw (g r d h, ← e, ne_eqb (refusal_number r) 0 (refusal_some r)) refl

-- an addition that is done
pub room_behind : (deck : List ℕ) (d : Known) (text : List ℕ) → Done ≡ said_of (add_to deck d text) → (length deck + length text ≤ most_bytes) × (add_to deck d text ≡ done (deck ++ text))
unfolding add_to
room_behind deck d text e = by (ltb most_bytes (length deck + length text)) refl e
  where
    short : Bool → Type 0
    short b = (length deck + length text ≤ most_bytes) × (pick b (refused 2 0) (checked (text_verdict d text) (last_line d) (deck ++ text)) ≡ done (deck ++ text))

    good : (b : Bool) → length deck + length text ≤ most_bytes → Done ≡ said_of (pick b (done (deck ++ text)) (refused (text_verdict d text) (last_line d))) → (length deck + length text ≤ most_bytes) × (pick b (done (deck ++ text)) (refused (text_verdict d text) (last_line d)) ≡ done (deck ++ text))
    good true h e = (h, refl)
    good false h e = not_refused (text_verdict d text) (last_line d) e

    by : (b : Bool) → ltb most_bytes (length deck + length text) ≡ b → Done ≡ said_of (pick b (refused 2 0) (checked (text_verdict d text) (last_line d) (deck ++ text))) → short b
    by true q e = not_refused 2 0 e
    by false q e = good (eqb (text_verdict d text) 0) (ltb-false most_bytes (length deck + length text) q) e

-- of a session that holds a deck
pub add_is : {s t : List ℕ} {n : ℕ} {k : State} (text : List ℕ) → Live s t n k → call_add s text n ≡ add_to (deck_in s) (known_in (deck_in s) t k) text
add_is text L = ap (λ (h : Holding). on_holding h (λ deck d. add_to deck d text)) L.is

-- the text stands behind it
pub stored_behind : (s text p ys : List ℕ) (n a k : ℕ) → s ≡ stored (deck_in s) → n ≡ get_or (words s) 0 0 → length (deck_in s) + length text ≤ most_bytes → a ≡ 4 + n → k ≡ length text → ys ≡ text
    → p ≡ bytes ((n + length text) ∷ []) ++ drop 4 (put_mid a k s ys) → p ≡ stored (deck_in s ++ text)
unfolding stored
stored_behind s text p ys n a k e w h i l q f =
    let deck : List ℕ = deck_in s in
    let m : n ≡ length deck = session_word s n e (omega arith) w in
    let r : List ℕ = deck ++ replicate (most_bytes - length deck) 0 in
    let c : put_mid a k s ys ≡ bytes (length deck ∷ []) ++ (take n r ++ (text ++ drop (n + k) r)) = rw q (ap (λ (t : List ℕ). put_mid a k t text) e ∙ put_in (length deck) r text a n k i) in
    let t : take n r ≡ deck = rw m (take_at deck (replicate (most_bytes - length deck) 0) (length deck) refl) in
    let u : drop (n + k) r ≡ replicate (most_bytes - length (deck ++ text)) 0 = rw (m, l) (sym (drop-drop (length text) (length deck) r) ∙ ap (drop (length text)) (drop_at deck (replicate (most_bytes - length deck) 0) (length deck) refl) ∙ drop-replicate {X = ℕ} (length text) (most_bytes - length deck) 0 ∙ ap (λ (j : ℕ). replicate j 0) (omega (arith, length-append deck text))) in
    let z : n + length text ≡ length (deck ++ text) = m' m text in
    f ∙ ap₂ {C = List ℕ} ◌++◌ (ap (λ (j : ℕ). bytes (j ∷ [])) z) (ap (drop 4) c ∙ drop_word (length deck) (take n r ++ (text ++ drop (n + k) r)) ∙ ap₂ (λ (x y : List ℕ). x ++ (text ++ y)) t u ∙ sym (append_assoc deck text (replicate (most_bytes - length (deck ++ text)) 0)))
  where
    m' : n ≡ length (deck_in s) → (text : List ℕ) → n + length text ≡ length (deck_in s ++ text)
    m' m text = omega (arith, length-append (deck_in s) text)
