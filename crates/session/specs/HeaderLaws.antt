-- Other options leave a deck that is read, with all its lines behind the header. Assumes nothing.
use Rattle.std.specs.Prelude.{◌≡◌, refl, Bool, true, false, not, ◌&&◌, List, [], ◌∷◌, ◌++◌, ℕ, zero, suc, ◌+◌, ◌*◌, ◌≤◌, ◌<◌, eqb, leb, length, get_or, drop}
use Rattle.std.proofs.Common.{sym, ap, ◌∙◌, subst, true≢false, append-nil, arith, leb-true, eqb-true, eq-eqb, length-append}
use Rattle.std.proofs.Math.Seq.{drop-append_seam}
use Rattle.std.proofs.lemmas.Bool.{and_parts}
use Rattle.ir.specs.Pick.{pick}
use Rattle.rules.specs.Invariants.{Each}
use Rattle.rules.specs.Text.{most_number}
use Rattle.rules.specs.TextLaws.{each_get_d, row_read}
use Rattle.rules.specs.Deck.{most_classes, most_individuals, most_roles, most_options, section_of, sections, concept_of, axiom_of, depth_of, Header, header_of, header_ok, Known, known, with_options, optioned, in_order, fields_ok, most_listed, verdict, entered, fine, on_verdict, nothing, read_deck}
use Rattle.rules.specs.DeckLaws.{read_in, verdict_zero, all_each}
use Rattle.rules.specs.Lister.{fields_text}
use Rattle.rules.specs.PrintLaws.{row_printed}
use Rattle.spelling.specs.Rows.{IsLine, row_line}
use Rattle.spelling.specs.Lines.{Line, IsRow, text_of, check_rows, not_fine, fine_inj}
use Rattle.spelling.specs.Decks.{deck_short, deck_lines, lines_deck, deck_some}
use Rattle.session.specs.Session.{done, refused, header_row, options_in, after_line, without}
use Rattle.session.specs.SessionLaws.{not_done, done_inj}
use Rattle.session.specs.StrikeLaws.{kind_of, without_first}
use Rattle.session.specs.PlaceLaws.{ordered, entered_begun}
use Rattle.session.specs.OptionsLaws.{lines_same, no_header}

text_row : (n : ℕ) (r : List ℕ) → Each (λ k. k ≤ most_number) (n ∷ r) → IsRow (record { text = fields_text (n ∷ r); numbers = n ∷ r })
text_row n r N =
    let L = row_line (fields_text (n ∷ r) ++ []) (n ∷ r) [] (row_printed n r [] N) in
    let e : L.0 ≡ fields_text (n ∷ r) = sym (append-nil L.0) ∙ sym L.1 ∙ append-nil (fields_text (n ∷ r)) in
    record { is_line = subst IsLine e L.2; reads = λ t. row_printed n r t N }

-- the first line ends where `without 0` begins
after_first : (s : List ℕ) → after_line s ≡ without zero s
unfolding after_line without
after_first [] = refl
after_first (b ∷ s) = ap (λ (z : List ℕ). pick (eqb b 10) s z) (after_first s)

pub line_long : (x : Line) → IsRow x → length x.text ≡ 11 * length x.numbers + 1
line_long x X =
    let R = row_read (x.text ++ []) x.numbers [] (X.reads []) in
    omega (arith, R.bytes, ap (λ (z : List ℕ). length z) (append-nil x.text))

-- a header's kind is 0, and it has five numbers
header_zero : (k : ℕ) → section_of k ≡ 1 → k ≡ 0
header_zero zero e = refl
header_zero (suc k) e = absurd (each_get_d (λ n. n ≡ 1 → ⊥) (drop 1 sections) k 0 (all_each (λ n. not (eqb n 1)) (λ n. n ≡ 1 → ⊥) apart (drop 1 sections) refl) (λ z. absurd (omega arith)) e)
  where
    apart : (n : ℕ) → not (eqb n 1) ≡ true → n ≡ 1 → ⊥
    apart n h e = true≢false (sym (sym (ap not (eq-eqb n 1 e)) ∙ h))

entered_header : (s : Known) (k : ℕ) (r : List ℕ) → eqb (section_of k) 1 ≡ false → (entered s k r).header ≡ s.header
unfolding entered
entered_header s k r e = rw e (by (eqb (section_of k) 2) (eqb (section_of k) 3))
  where
    by : (b c : Bool) → (pick b (known 2 s.header (s.keys ++ (get_or r 1 0 ∷ [])) s.concepts s.depths s.axioms) (pick c (known 3 s.header s.keys (s.concepts ++ (concept_of k r ∷ [])) (s.depths ++ (depth_of s.depths (concept_of k r) ∷ [])) s.axioms) (known 4 s.header s.keys s.concepts s.depths (s.axioms ++ (axiom_of k r ∷ []))))).header ≡ s.header
    by true c = refl
    by false true = refl
    by false false = refl

-- behind the header it stays
header_kept : (l : List Line) (s : Known) (line : ℕ) (d : Known) → 1 ≤ s.section → check_rows s line l ≡ fine d → d.header ≡ s.header
unfolding check_rows
header_kept [] s line d h e = ap (λ (k : Known). k.header) (sym (fine_inj s d e))
header_kept (x ∷ l) s line d h e = go (eqb (verdict s (kind_of x) x.numbers) 0) refl (λ q. header_kept l (entered s (kind_of x) x.numbers) (line + 1) d (entered_begun s (kind_of x) x.numbers) q) e
  where
    go : (b : Bool) → eqb (verdict s (kind_of x) x.numbers) 0 ≡ b → (check_rows (entered s (kind_of x) x.numbers) (line + 1) l ≡ fine d → d.header ≡ (entered s (kind_of x) x.numbers).header)
        → on_verdict (λ k. check_rows k (line + 1) l) s line x.numbers (verdict s (kind_of x) x.numbers) b ≡ fine d → d.header ≡ s.header
    go false q more e = not_fine (verdict s (kind_of x) x.numbers) line d e
    go true q more e = more e ∙ entered_header s (kind_of x) x.numbers (no_header s (kind_of x) x.numbers h (eqb-true (verdict s (kind_of x) x.numbers) 0 q))

header_first : (k : ℕ) (r : List ℕ) → section_of k ≡ 1 → entered nothing k r ≡ known 1 (header_of r) [] [] [] []
unfolding entered
header_first k r e = rw e refl

header_section : (k : ℕ) (r : List ℕ) → verdict nothing k r ≡ 0 → section_of k ≡ 1
header_section k r e = by (section_of k) (eqb (section_of k) 0) (eqb (section_of k) 1) refl (ordered nothing k r e)
  where
    by : (n : ℕ) (x y : Bool) → eqb n 1 ≡ y → pick x false (pick y true (leb 1 0 && leb 0 n)) ≡ true → n ≡ 1
    by n true y q h = absurd (true≢false (sym h))
    by n false true q h = eqb-true n 1 q
    by n false false q h = absurd (true≢false (sym h))

options_small : (h : Header) (n : ℕ) → verdict nothing 0 (header_row h n) ≡ 0 → n ≤ most_options
options_small h n e =
    let P = verdict_zero nothing 0 (header_row h n) e in
    let r = and_parts (leb 0 most_listed) (header_ok (header_of (header_row h n))) P.limits in
    leb-true n most_options (last (leb h.classes most_classes) (leb h.individuals most_individuals) (leb h.roles most_roles) (leb n most_options) r.1)
  where
    last : (a b c d : Bool) → (a && b && c && d) ≡ true → d ≡ true
    last true true true d h = h
    last true true false d h = absurd (true≢false (sym h))
    last true false c d h = absurd (true≢false (sym h))
    last false b c d h = absurd (true≢false (sym h))

five : (a b c d e : ℕ) → Each (λ k. k ≤ most_number) (a ∷ b ∷ c ∷ d ∷ e ∷ []) → length (fields_text (a ∷ b ∷ c ∷ d ∷ e ∷ [])) ≡ 56
five a b c d e N = line_long (record { text = fields_text (a ∷ b ∷ c ∷ d ∷ e ∷ []); numbers = a ∷ b ∷ c ∷ d ∷ e ∷ [] }) (text_row a (b ∷ c ∷ d ∷ e ∷ []) N)

first_line : (l : List Line) → 0 < length (text_of l) → (x : Line) × (m : List Line) × (l ≡ x ∷ m)
unfolding text_of
first_line [] h = absurd (omega arith)
first_line (x ∷ m) h = (x, m, refl)

-- the first line checked
first_check : (x : Line) (m : List Line) (d : Known) → check_rows nothing 1 (x ∷ m) ≡ fine d → (verdict nothing (kind_of x) x.numbers ≡ 0) × (check_rows (entered nothing (kind_of x) x.numbers) 2 m ≡ fine d)
unfolding check_rows
first_check x m d e = go (eqb (verdict nothing (kind_of x) x.numbers) 0) refl e
  where
    go : (b : Bool) → eqb (verdict nothing (kind_of x) x.numbers) 0 ≡ b → on_verdict (λ k. check_rows k 2 m) nothing 1 x.numbers (verdict nothing (kind_of x) x.numbers) b ≡ fine d
        → (verdict nothing (kind_of x) x.numbers ≡ 0) × (check_rows (entered nothing (kind_of x) x.numbers) 2 m ≡ fine d)
    go false q e = not_fine (verdict nothing (kind_of x) x.numbers) 1 d e
    go true q e = (eqb-true (verdict nothing (kind_of x) x.numbers) 0 q, e)

check_first : (r : List ℕ) (t : List ℕ) (m : List Line) → verdict nothing (get_or r 0 0) r ≡ 0 → check_rows nothing 1 (record { text = t; numbers = r } ∷ m) ≡ check_rows (entered nothing (get_or r 0 0) r) 2 m
unfolding check_rows
check_first r t m e = rw e refl

-- ---- a deck that is read begins with its header
pub record Headed (deck : List ℕ) (d : Known) : Type 0 where
  pub line : Line
  pub more : List Line
  pub rows : Each IsRow (line ∷ more)
  pub is : deck ≡ line.text ++ text_of more
  pub check : check_rows (entered nothing (kind_of line) line.numbers) 2 more ≡ fine d
  pub one : section_of (kind_of line) ≡ 1
  pub fields : length line.numbers ≡ 5

pub headed : (deck : List ℕ) (d : Known) → read_deck deck ≡ fine d → Headed deck d
unfolding text_of
headed deck d e =
    let H = deck_lines deck d e in
    let F = first_line H.lines (omega (arith, ap (λ (z : List ℕ). length z) H.is, deck_some deck d e)) in
    let x = F.0 in
    let C = first_check x F.1 d (subst (λ (z : List Line). check_rows nothing 1 z ≡ fine d) F.2 H.check) in
    let o = header_section (kind_of x) x.numbers C.0 in
    record {
      line = x;
      more = F.1;
      rows = subst (λ (z : List Line). Each IsRow z) F.2 H.rows;
      is = H.is ∙ ap text_of F.2;
      check = C.1;
      one = o;
      fields = eqb-true (length x.numbers) 5 (subst (λ (j : ℕ). fields_ok j (length x.numbers) ≡ true) (header_zero (kind_of x) o) (and_parts (in_order 0 (section_of (kind_of x))) (fields_ok (kind_of x) (length x.numbers)) (verdict_zero nothing (kind_of x) x.numbers C.0).shape).1);
    }

module _ (deck : List ℕ) (d : Known) (B : Headed deck d) where
  headed_long : length B.line.text ≡ 56
  headed_long = line_long B.line B.rows.0 ∙ ap (λ (n : ℕ). 11 * n + 1) B.fields

  headed_after : after_line deck ≡ text_of B.more
  headed_after = after_first deck ∙ ap (without zero) B.is ∙ without_first B.line.text (text_of B.more) B.rows.0.is_line

-- its first 56 bytes
pub header_long : (deck : List ℕ) (d : Known) → read_deck deck ≡ fine d → (56 ≤ length deck) × (after_line deck ≡ drop 56 deck)
header_long deck d e =
    let B = headed deck d e in
    let l = headed_long deck d B in
    let t = text_of B.more in
    (omega (arith, ap (λ (z : List ℕ). length z) B.is, length-append B.line.text t), headed_after deck d B ∙ sym (drop-append_seam B.line.text t) ∙ ap (λ (n : ℕ). drop n (B.line.text ++ t)) l ∙ ap (drop 56) (sym B.is))

-- ---- the deck with other options is read, and differs in them alone
pub options_is : (deck : List ℕ) (d : Known) (n : ℕ) (after : List ℕ) → read_deck deck ≡ fine d → options_in deck d n ≡ done after → read_deck after ≡ fine (optioned d n)
unfolding options_in text_of
options_is deck d n after e h = by (eqb (verdict nothing 0 (header_row d.header n)) 0) refl h
  where
    by : (b : Bool) → eqb (verdict nothing 0 (header_row d.header n)) 0 ≡ b → pick b (done (fields_text (header_row d.header n) ++ after_line deck)) (refused (verdict nothing 0 (header_row d.header n)) 1) ≡ done after
        → read_deck after ≡ fine (optioned d n)
    by false q h = not_done (verdict nothing 0 (header_row d.header n)) 1 after h
    by true q h =
        let B = headed deck d e in
        let x = B.line in
        let m = B.more in
        let E = header_first (kind_of x) x.numbers B.one in
        let K : d.header ≡ header_of x.numbers = header_kept m (entered nothing (kind_of x) x.numbers) 2 d (entered_begun nothing (kind_of x) x.numbers) B.check ∙ ap (λ (z : Known). z.header) E in
        let D = read_in deck d e in
        let v : verdict nothing 0 (header_row d.header n) ≡ 0 = eqb-true (verdict nothing 0 (header_row d.header n)) 0 q in
        let N : Each (λ z. z ≤ most_number) (header_row d.header n) = (omega arith, (omega (arith, D.classes), (omega (arith, D.individuals), (omega (arith, D.roles), (omega (arith, options_small d.header n v), tt))))) in
        let Y = text_row 0 (d.header.classes ∷ d.header.individuals ∷ d.header.roles ∷ n ∷ []) N in
        let y : Line = record { text = fields_text (header_row d.header n); numbers = header_row d.header n } in
        let z : after ≡ text_of (y ∷ m) = sym (done_inj (fields_text (header_row d.header n) ++ after_line deck) after h) ∙ ap (λ (w : List ℕ). fields_text (header_row d.header n) ++ w) (headed_after deck d B) in
        let long : length after ≡ length deck = ap (λ (w : List ℕ). length w) z ∙ length-append (fields_text (header_row d.header n)) (text_of m) ∙ ap (λ (w : ℕ). w + length (text_of m)) (five 0 d.header.classes d.header.individuals d.header.roles n N ∙ sym (headed_long deck d B)) ∙ sym (length-append x.text (text_of m)) ∙ ap (λ (w : List ℕ). length w) (sym B.is) in
        let s : entered nothing 0 (header_row d.header n) ≡ optioned (entered nothing (kind_of x) x.numbers) n =
        header_first 0 (header_row d.header n) refl ∙ ap (λ (w : Header). known 1 (with_options w n) [] [] [] []) K ∙ sym (ap (λ (w : Known). optioned w n) E) in
        lines_deck after (y ∷ m) z (Y, B.rows.1) (omega (arith, long, deck_short deck d e)) (omega (arith, long, deck_some deck d e))
        ∙ check_first (header_row d.header n) (fields_text (header_row d.header n)) m v
        ∙ ap (λ (w : Known). check_rows w 2 m) s
        ∙ lines_same m (entered nothing (kind_of x) x.numbers) 2 d n (entered_begun nothing (kind_of x) x.numbers) B.check
