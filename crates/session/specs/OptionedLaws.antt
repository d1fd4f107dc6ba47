-- A header that is written, as it is checked: its printed line against its numbers. Assumes nothing.
use Rattle.std.specs.Prelude.{◌≡◌, refl, true, ◌&&◌, List, [], ◌∷◌, ◌++◌, ℕ, suc, ◌+◌, ◌*◌, ◌-◌, ◌<◌, ◌≤◌, length, get_or, drop, replicate, leb}
use Rattle.std.proofs.Common.{sym, ap, ap₂, ◌∙◌, append_assoc, append-nil, drop_of_length-le, arith, length-append, length-drop, ne_eqb}
use Rattle.std.proofs.lemmas.List.{drop-append-le}
use Rattle.std.proofs.lemmas.List.Edits.{sets, sets-eq}
use Rattle.std.proofs.Math.Seq.{drop-append-add}
use Rattle.words.specs.Words.{bytes}
use Rattle.ir.specs.Pick.{pick}
use Prim.{tt}
use Rattle.rules.specs.Invariants.{Each}
use Rattle.rules.specs.Text.{most_number, number}
use Rattle.rules.specs.Deck.{most_bytes, most_classes, most_individuals, most_roles, most_options, most_listed, limits_ok, list_of, nothing, verdict}
use Rattle.rules.specs.DeckLaws.{DeckIn, read_in}
use Rattle.rules.specs.Lister.{field_text, fields_text}
use Rattle.rules.specs.PrintLaws.{field_read}
use Rattle.text.specs.Rows.{row_at}
use Rattle.text.specs.RowLaws.{row_number_lem, row_past}
use Rattle.rows.specs.RowLaws.{length_field, length_line}
use Rattle.deck.specs.Records.{known_in}
use Rattle.deck.specs.declared.state.State.{State}
use Rattle.session.specs.Session.{stored, deck_in, Holding, done, refused, checked, after_line, options_in, on_holding, call_options, session_after}
use Rattle.session.specs.Told.{Live}
use Rattle.session.specs.HeaderLaws.{header_long}

-- ---- a printed line, behind its first numbers
fields_drop : (l m : List ℕ) → drop (11 * length l) (fields_text (l ++ m)) ≡ fields_text m
unfolding fields_text
fields_drop [] m = refl
fields_drop (n ∷ l) m =
    let e : 11 * suc (length l) ≡ length (field_text n) + 11 * length l = omega (arith, length_field n) in
    ap (λ (k : ℕ). drop k (field_text n ++ fields_text (l ++ m))) e ∙ drop-append-add (field_text n) (fields_text (l ++ m)) (11 * length l) ∙ fields_drop l m

-- a number of it is read back
text_below : (l : List ℕ) (a : ℕ) (m : List ℕ) (b : ℕ) → length l < 5 → a ≤ most_number → leb (get_or (row_at (fields_text (l ++ a ∷ m)) 0 5) (length l) 0) b ≡ leb a b
unfolding fields_text
text_below l a m b h k =
    ap (λ (x : ℕ). leb x b)
    (row_number_lem (fields_text (l ++ a ∷ m)) 0 5 (length l) h ∙ ap (λ (k : ℕ). number (drop k (fields_text (l ++ a ∷ m)))) (omega arith) ∙ ap number (fields_drop l (a ∷ m)) ∙ field_read a (fields_text m) k)

-- ---- 4, of a header's line
module _ (c i r n : ℕ) where
  abbrev row_of_header : List ℕ
  row_of_header = 0 ∷ c ∷ i ∷ r ∷ n ∷ []

  pub header_limits : (s : List ℕ) → Each (λ k. k ≤ most_number) row_of_header → s ≡ fields_text row_of_header → limits_ok nothing 0 (row_at s 0 5) ≡ limits_ok nothing 0 row_of_header
  header_limits s N e =
      let row : List ℕ = row_at (fields_text row_of_header) 0 5 in
      let five : leb (length (list_of 0 row)) most_listed ≡ true = ap (λ (l : List ℕ). leb (length l) most_listed) (row_past (fields_text row_of_header) 0 5 5 (omega arith)) in
      let a = text_below (0 ∷ []) c (i ∷ r ∷ n ∷ []) most_classes (omega arith) N.1.0 in
      let b = text_below (0 ∷ c ∷ []) i (r ∷ n ∷ []) most_individuals (omega arith) N.1.1.0 in
      let d = text_below (0 ∷ c ∷ i ∷ []) r (n ∷ []) most_roles (omega arith) N.1.1.1.0 in
      let o = text_below (0 ∷ c ∷ i ∷ r ∷ []) n [] most_options (omega arith) N.1.1.1.1.0 in
      ap (λ (t : List ℕ). limits_ok nothing 0 (row_at t 0 5)) e
      ∙ ap₂ ◌&&◌ five (ap₂ ◌&&◌ (ap₂ ◌&&◌ (ap₂ ◌&&◌ a b) d) o)

  pub header_verdict : pick (limits_ok nothing 0 row_of_header) 0 4 ≡ verdict nothing 0 row_of_header
  unfolding verdict
  header_verdict = refl

-- ---- a deck whose first bytes are others
pub stored_room : (deck : List ℕ) → 4 + length deck ≤ length (stored deck)
unfolding stored bytes
stored_room deck = omega (arith, length-append deck (replicate (most_bytes - length deck) 0))

pub stored_part : (h deck : List ℕ) → length h ≤ length deck → sets (stored deck) 4 h ≡ stored (h ++ drop (length h) deck)
unfolding stored bytes
stored_part h deck l =
    let k : ℕ = length h in
    let z : List ℕ = replicate (most_bytes - length deck) 0 in
    let four : 4 + k ≡ suc (suc (suc (suc k))) = omega arith in
    let long : length (h ++ drop k deck) ≡ length deck = length-append h (drop k deck) ∙ (let e = length-drop k deck in omega arith) in
    sets-eq h (stored deck) 4 (omega (arith, length-append deck z))
    ∙ ap (λ (n : ℕ). bytes (length deck ∷ []) ++ h ++ drop n (stored deck)) four
    ∙ ap (λ (t : List ℕ). bytes (length deck ∷ []) ++ h ++ t) (drop-append-le k deck z l)
    ∙ ap (λ (t : List ℕ). bytes (length deck ∷ []) ++ t) (sym (append_assoc h (drop k deck) z))
    ∙ ap (λ (n : ℕ). bytes (n ∷ []) ++ (h ++ drop k deck) ++ replicate (most_bytes - n) 0) (sym long)

-- a text of a slice's own length is all of it
sets_whole : (z h : List ℕ) → length z ≡ length h → sets z 0 h ≡ h
sets_whole z h e =
    sets-eq h z 0 (omega arith) ∙ ap (λ (t : List ℕ). h ++ t) (drop_of_length-le z (omega arith)) ∙ append-nil h

pub written : (z out row : List ℕ) → length z ≡ 56 → length row ≡ 5 → out ≡ sets z 0 (fields_text row) → out ≡ fields_text row
written z out row l m e = e ∙ sets_whole z (fields_text row) (omega (arith, length_line row))

-- ---- other options of a session s that holds a deck
module _ {s t : List ℕ} {z : ℕ} {k : State} (L : Live s t z k) where
  abbrev deck : List ℕ
  deck = deck_in s

  pub in_deck : DeckIn (known_in deck t k)
  in_deck = read_in deck (known_in deck t k) L.read

  long : (56 ≤ length deck) × (after_line deck ≡ drop 56 deck)
  long = header_long deck (known_in deck t k) L.read

  module _ (n : ℕ) where
    abbrev row_of_state : List ℕ
    row_of_state = 0 ∷ k.classes ∷ k.individuals ∷ k.roles ∷ n ∷ []

    pub row_fits : n ≤ most_number → Each (λ j. j ≤ most_number) row_of_state
    row_fits h = (omega arith, (omega (arith, in_deck.classes), (omega (arith, in_deck.individuals), (omega (arith, in_deck.roles), (h, tt)))))

    abbrev text_of_state : List ℕ
    text_of_state = fields_text row_of_state

    put_checked : call_options s n z ≡ checked (verdict nothing 0 row_of_state) 1 (text_of_state ++ drop 56 deck)
    unfolding options_in
    put_checked = ap (λ (h : Holding). on_holding h (λ deck d. options_in deck d n)) L.is ∙ ap (λ (u : List ℕ). checked (verdict nothing 0 row_of_state) 1 (text_of_state ++ u)) long.1

    pub put_refused : (verdict nothing 0 row_of_state ≡ 0 → ⊥) → refused (verdict nothing 0 row_of_state) 1 ≡ call_options s n z
    put_refused e = sym (put_checked ∙ rw (ne_eqb (verdict nothing 0 row_of_state) 0 e) refl)

    pub put_done : verdict nothing 0 row_of_state ≡ 0 → done (text_of_state ++ drop 56 deck) ≡ call_options s n z
    put_done e = sym (put_checked ∙ rw e refl)

    module _ (out : List ℕ) (e : out ≡ text_of_state) where
      header_room : length out ≡ 56
      header_room = ap (λ (u : List ℕ). length u) e ∙ length_line row_of_state

      pub put_room : length out ≤ length deck
      put_room = let l = long.0 in omega (arith, header_room)

      pub put_after : verdict nothing 0 row_of_state ≡ 0 → stored (out ++ drop (length out) deck) ≡ session_after s (call_options s n z)
      put_after v = ap₂ (λ (u : List ℕ) (i : ℕ). stored (u ++ drop i deck)) e header_room ∙ ap (session_after s) (put_done v)
