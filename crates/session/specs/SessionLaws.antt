-- An added axiom is the deck's last; the session goes on. Assumes nothing.
use Rattle.std.specs.Prelude.{◌≡◌, refl, Bool, true, false, ◌&&◌, List, [], ◌∷◌, ◌++◌, ℕ, ◌+◌, ◌≤◌, eqb, ltb, length, get_or}
use Rattle.std.proofs.Common.{sym, ap, ap₂, ◌∙◌, append-nil, arith, ltb-false, eqb-true, length-append}
use Rattle.std.proofs.lemmas.Bool.{and_parts}
use Rattle.ir.specs.Pick.{pick}
use Rattle.rules.specs.EachLaws.{each_append}
use Rattle.rules.specs.Text.{Row, row, broken_row, row_of}
use Rattle.rules.specs.Deck.{most_bytes, section_of, axiom_of, Known, verdict, entered, nothing, fine, read_deck}
use Rattle.spelling.specs.Rows.{row_line}
use Rattle.spelling.specs.Lines.{Line, IsRow, text_of, check_rows, text_append, check_append}
use Rattle.spelling.specs.Decks.{deck_lines, lines_deck, deck_some}
use Rattle.session.specs.Session.{done, refused, checked, is_nil, last_line, row_verdict, text_verdict, add_to}

pub not_done : {P : Type 0} (k line : ℕ) (x : List ℕ) → refused k line ≡ done x → P
not_done k line x e = absurd (let z : ◌≡◌ {A = ℕ} 0 1 = cc in omega arith)

pub done_inj : (a b : List ℕ) → done a ≡ done b → a ≡ b
done_inj a b e = cc

nil_is : (s : List ℕ) → is_nil s ≡ true → s ≡ []
nil_is [] e = refl
nil_is (b ∷ s) e = absurd (let z : ◌≡◌ {A = ℕ} 0 1 = cc in omega arith)

pub record Added (deck : List ℕ) (d : Known) (text after : List ℕ) : Type 0 where
  pub numbers : List ℕ
  pub said : row_of text ≡ row numbers []
  pub axiom_row : section_of (get_or numbers 0 0) ≡ 4
  pub is : after ≡ deck ++ text
  -- the deck that is then live reads as this one with that axiom behind its others
  pub read : read_deck after ≡ fine (entered d (get_or numbers 0 0) numbers)
  pub axioms : (entered d (get_or numbers 0 0) numbers).axioms ≡ d.axioms ++ (axiom_of (get_or numbers 0 0) numbers ∷ [])

entered_axiom : (d : Known) (k : ℕ) (r : List ℕ) → section_of k ≡ 4 → (entered d k r).axioms ≡ d.axioms ++ (axiom_of k r ∷ [])
unfolding entered
entered_axiom d k r e = rw e refl

one_row : (d : Known) (line : ℕ) (x : Line) → verdict d (get_or x.numbers 0 0) x.numbers ≡ 0 → check_rows d line (x ∷ []) ≡ fine (entered d (get_or x.numbers 0 0) x.numbers)
unfolding check_rows
one_row d line x e = rw e refl

-- a call that is done has passed its checks
pub checked_done : (v line : ℕ) (deck after : List ℕ) → checked v line deck ≡ done after → (v ≡ 0) × (deck ≡ after)
checked_done v line deck after e = by (eqb v 0) refl e
  where
    by : (b : Bool) → eqb v 0 ≡ b → pick b (done deck) (refused v line) ≡ done after → (v ≡ 0) × (deck ≡ after)
    by true q e = (eqb-true v 0 q, done_inj deck after e)
    by false q e = not_done v line after e

-- a text that passes: one line, and the axiom that it says
record Passed (d : Known) (text : List ℕ) : Type 0 where
  line : Line
  said : row_of text ≡ row line.numbers []
  is : text ≡ line.text
  is_row : IsRow line
  four : section_of (get_or line.numbers 0 0) ≡ 4
  good : verdict d (get_or line.numbers 0 0) line.numbers ≡ 0

passed : (d : Known) (text : List ℕ) → text_verdict d text ≡ 0 → Passed d text
passed d [] h = absurd (omega arith)
passed d (b ∷ s) h = on (row_of (b ∷ s)) refl h
  where
    in_row : (r rest : List ℕ) → row_of (b ∷ s) ≡ row r rest → (x : Bool) → (is_nil rest && eqb (section_of (get_or r 0 0)) 4) ≡ x → pick x (verdict d (get_or r 0 0) r) 3 ≡ 0 → Passed d (b ∷ s)
    in_row r rest q false k h = absurd (omega arith)
    in_row r rest q true k h =
        let p = and_parts (is_nil rest) (eqb (section_of (get_or r 0 0)) 4) k in
        let L = row_line (b ∷ s) r rest q in
        record {
          line = record { text = L.0; numbers = r };
          said = q ∙ ap (row r) (nil_is rest p.0);
          is = L.1 ∙ ap (λ (t : List ℕ). L.0 ++ t) (nil_is rest p.0) ∙ append-nil L.0;
          is_row = record { is_line = L.2; reads = L.3 };
          four = eqb-true (section_of (get_or r 0 0)) 4 p.1;
          good = h;
        }

    on : (x : Row) → row_of (b ∷ s) ≡ x → row_verdict d x ≡ 0 → Passed d (b ∷ s)
    on broken_row q h = absurd (omega arith)
    on (row r rest) q h = in_row r rest q (is_nil rest && eqb (section_of (get_or r 0 0)) 4) refl h

pub add_law : (deck : List ℕ) (d : Known) (text after : List ℕ) → read_deck deck ≡ fine d → add_to deck d text ≡ done after → Added deck d text after
unfolding add_to text_of
add_law deck d text after e h = by (ltb most_bytes (length deck + length text)) refl h
  where
    on_line : length deck + length text ≤ most_bytes → Passed d text → deck ++ text ≡ after → Added deck d text after
    on_line m P a =
        let x = P.line in
        let H = deck_lines deck d e in
        let whole : deck ++ text ≡ text_of (H.lines ++ (x ∷ [])) = ap₂ {C = List ℕ} ◌++◌ H.is (P.is ∙ sym (append-nil x.text)) ∙ sym (text_append H.lines (x ∷ [])) in
        record {
          numbers = x.numbers;
          said = P.said;
          axiom_row = P.four;
          is = sym a;
          read = ap read_deck (sym a)
              ∙ lines_deck (deck ++ text) (H.lines ++ (x ∷ [])) whole (each_append IsRow H.lines (x ∷ []) H.rows (P.is_row, tt))
              (omega (arith, length-append deck text)) (omega (arith, length-append deck text, deck_some deck d e))
              ∙ check_append H.lines (x ∷ []) nothing 1 d H.check
              ∙ one_row d (1 + length H.lines) x P.good;
          axioms = entered_axiom d (get_or x.numbers 0 0) x.numbers P.four;
        }

    by : (b : Bool) → ltb most_bytes (length deck + length text) ≡ b → pick b (refused 2 0) (checked (text_verdict d text) (last_line d) (deck ++ text)) ≡ done after → Added deck d text after
    by true q h = not_done 2 0 after h
    by false q h =
        let c = checked_done (text_verdict d text) (last_line d) (deck ++ text) after h in
        on_line (ltb-false most_bytes (length deck + length text) q) (passed d text c.0) c.1
