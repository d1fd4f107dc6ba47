-- The axioms of a deck are its last lines, from line axiomLine d 0 on: so a line that may be struck is an axiom's. Assumes
-- nothing.
use Rattle.std.specs.Prelude.{◌≡◌, refl, Bool, true, false, ◌&&◌, List, [], ◌∷◌, ◌++◌, ℕ, zero, suc, ◌+◌, ◌-◌, ◌≤◌, ◌<◌, eqb, ltb, leb, length, get_or}
use Rattle.std.proofs.Common.{sym, ap, ap₂, ◌∙◌, subst, true≢false, append_assoc, arith, ltb-true, leb-true, eqb-true, ne_eqb, length-append}
use Rattle.std.proofs.lemmas.Bool.{and_parts, eqb-false}
use Rattle.ir.specs.Pick.{pick}
use Rattle.rules.specs.Invariants.{Each}
use Rattle.rules.specs.TextLaws.{each_get_d}
use Rattle.rules.specs.EachLaws.{each_append}
use Rattle.rules.specs.Concept.{Axiom}
use Rattle.rules.specs.Deck.{sections, section_of, concept_of, axiom_of, header_of, depth_of, Known, known, in_order, fields_ok, verdict, entered, fine, on_verdict, nothing, read_deck, axiom_line}
use Rattle.rules.specs.DeckLaws.{all_each, verdict_zero}
use Rattle.spelling.specs.Lines.{Line, IsRow, text_of, check_rows, not_fine, not_empty, fine_inj, text_append, check_append}
use Rattle.spelling.specs.Decks.{deck_short, deck_lines, lines_deck, deck_some}
use Rattle.session.specs.Session.{done, refused, last_line, without, strike_from}
use Rattle.session.specs.SessionLaws.{not_done, done_inj}
use Rattle.session.specs.StrikeLaws.{kind_of, axioms_of, Fewer, entered_four, check_prefix, strike_law, on_fewer, without_line}

section_small : (k : ℕ) → section_of k ≤ 4
section_small k = each_get_d (λ n. n ≤ 4) sections k 0 (all_each (λ n. leb n 4) (λ n. n ≤ 4) (λ n q. leb-true n 4 q) sections refl) (omega arith)

pub ordered : (s : Known) (k : ℕ) (r : List ℕ) → verdict s k r ≡ 0 → in_order s.section (section_of k) ≡ true
ordered s k r e = (and_parts (in_order s.section (section_of k)) (fields_ok k (length r)) (verdict_zero s k r e).shape).0

pub entered_begun : (s : Known) (k : ℕ) (r : List ℕ) → 1 ≤ (entered s k r).section
unfolding entered
entered_begun s k r = by (eqb (section_of k) 1) (eqb (section_of k) 2) (eqb (section_of k) 3)
  where
    by : (a b c : Bool) → 1 ≤ (pick a (known 1 (header_of r) s.keys s.concepts s.depths s.axioms) (pick b (known 2 s.header (s.keys ++ (get_or r 1 0 ∷ [])) s.concepts s.depths s.axioms) (pick c (known 3 s.header s.keys (s.concepts ++ (concept_of k r ∷ [])) (s.depths ++ (depth_of s.depths (concept_of k r) ∷ [])) s.axioms) (known 4 s.header s.keys s.concepts s.depths (s.axioms ++ (axiom_of k r ∷ [])))))).section
    by true b c = omega arith
    by false true c = omega arith
    by false false true = omega arith
    by false false false = omega arith

-- lines that are no axioms: the header, key marks, concepts
abbrev begun : ℕ → ℕ
begun n = pick (eqb n 0) 0 1

abbrev front : Known → ℕ
front s = begun s.section + length s.keys + length s.concepts

begun_one : (n : ℕ) → 1 ≤ n → begun n ≡ 1
begun_one n h = rw (ne_eqb n 0 (λ e. omega arith)) refl

record Step (s t : Known) (n : ℕ) : Type 0 where
  pub front : front t ≡ front s + 1
  pub axioms : t.axioms ≡ s.axioms
  pub section : t.section ≡ n

-- a line that is no axiom
front_step : (s : Known) (k : ℕ) (r : List ℕ) (n : ℕ) → section_of k ≡ n → n < 4 → verdict s k r ≡ 0 → Step s (entered s k r) n
unfolding entered
front_step s k r zero e h v = absurd (true≢false (sym (subst (λ (n : ℕ). in_order s.section n ≡ true) e (ordered s k r v))))
front_step s k r (suc zero) e h v =
    let z : s.section ≡ 0 = eqb-true s.section 0 (subst (λ (n : ℕ). in_order s.section n ≡ true) e (ordered s k r v)) in
    let y : begun s.section ≡ 0 = rw z refl in
    rw e (record { front = omega arith; axioms = refl; section = refl })
front_step s k r (suc (suc zero)) e h v =
    let z = and_parts (leb 1 s.section) (leb s.section 2) (subst (λ (n : ℕ). in_order s.section n ≡ true) e (ordered s k r v)) in
    let y : begun s.section ≡ 1 = begun_one s.section (leb-true 1 s.section z.0) in
    rw e (record { front = omega (arith, y, length-append s.keys (get_or r 1 0 ∷ [])); axioms = refl; section = refl })
front_step s k r (suc (suc (suc zero))) e h v =
    let z = and_parts (leb 1 s.section) (leb s.section 3) (subst (λ (n : ℕ). in_order s.section n ≡ true) e (ordered s k r v)) in
    let y : begun s.section ≡ 1 = begun_one s.section (leb-true 1 s.section z.0) in
    rw e (record { front = omega (arith, y, length-append s.concepts (concept_of k r ∷ [])); axioms = refl; section = refl })
front_step s k r (suc (suc (suc (suc n)))) e h v = absurd (omega arith)

-- behind an axiom there are axioms alone
four_on : (n : ℕ) → n ≤ 4 → in_order 4 n ≡ true → n ≡ 4
four_on zero h e = absurd (true≢false (sym e))
four_on (suc zero) h e = absurd (true≢false (sym e))
four_on (suc (suc zero)) h e = absurd (true≢false (sym e))
four_on (suc (suc (suc zero))) h e = absurd (true≢false (sym e))
four_on (suc (suc (suc (suc zero)))) h e = refl
four_on (suc (suc (suc (suc (suc n))))) h e = absurd (omega arith)

record Fours (l : List Line) (s d : Known) : Type 0 where
  pub fours : Each (λ x. section_of (kind_of x) ≡ 4) l
  pub front : front d ≡ front s
  pub count : length d.axioms ≡ length s.axioms + length l

fours : (l : List Line) (s : Known) (line : ℕ) (d : Known) → s.section ≡ 4 → check_rows s line l ≡ fine d → Fours l s d
unfolding check_rows
fours [] s line d h e = record { fours = tt; front = ap (λ (k : Known). front k) (sym (fine_inj s d e)); count = ap (λ (k : Known). length k.axioms) (sym (fine_inj s d e)) ∙ omega arith }
fours (x ∷ l) s line d h e = go (eqb (verdict s (kind_of x) x.numbers) 0) refl (λ q f. fours l (entered s (kind_of x) x.numbers) (line + 1) d q f) e
  where
    go : (b : Bool) → eqb (verdict s (kind_of x) x.numbers) 0 ≡ b
        → ((entered s (kind_of x) x.numbers).section ≡ 4 → check_rows (entered s (kind_of x) x.numbers) (line + 1) l ≡ fine d → Fours l (entered s (kind_of x) x.numbers) d)
        → on_verdict (λ k. check_rows k (line + 1) l) s line x.numbers (verdict s (kind_of x) x.numbers) b ≡ fine d → Fours (x ∷ l) s d
    go false q more e = not_fine (verdict s (kind_of x) x.numbers) line d e
    go true q more e =
        let four : section_of (kind_of x) ≡ 4 = four_on (section_of (kind_of x)) (section_small (kind_of x)) (subst (λ (n : ℕ). in_order n (section_of (kind_of x)) ≡ true) h (ordered s (kind_of x) x.numbers (eqb-true (verdict s (kind_of x) x.numbers) 0 q))) in
        let E = entered_four s x four in
        let M = more (ap (λ (k : Known). k.section) E) e in
        let b : begun s.section ≡ 1 = ap begun h in
        record {
          fours = (four, M.fours);
          front = M.front ∙ ap (λ (k : Known). front k) E ∙ omega arith;
          count = M.count ∙ ap (λ (k : Known). length k.axioms + length l) E ∙ omega (arith, length-append s.axioms (axiom_of (kind_of x) x.numbers ∷ []));
        }

-- ---- the lines before the axioms, and the axioms
pub record Places (l : List Line) (s d : Known) : Type 0 where
  pub before : List Line
  pub axiom_lines : List Line
  pub is : l ≡ before ++ axiom_lines
  pub fours : Each (λ x. section_of (kind_of x) ≡ 4) axiom_lines
  pub front : front d ≡ front s + length before
  pub count : length d.axioms ≡ length s.axioms + length axiom_lines

pub places : (l : List Line) (s : Known) (line : ℕ) (d : Known) → check_rows s line l ≡ fine d → Places l s d
unfolding check_rows
places [] s line d e = record { before = []; axiom_lines = []; is = refl; fours = tt; front = ap (λ (k : Known). front k) (sym (fine_inj s d e)) ∙ omega arith; count = ap (λ (k : Known). length k.axioms) (sym (fine_inj s d e)) ∙ omega arith }
places (x ∷ l) s line d e = go (eqb (verdict s (kind_of x) x.numbers) 0) refl (λ f. places l (entered s (kind_of x) x.numbers) (line + 1) d f) e
  where
    go : (b : Bool) → eqb (verdict s (kind_of x) x.numbers) 0 ≡ b → (check_rows (entered s (kind_of x) x.numbers) (line + 1) l ≡ fine d → Places l (entered s (kind_of x) x.numbers) d)
        → on_verdict (λ k. check_rows k (line + 1) l) s line x.numbers (verdict s (kind_of x) x.numbers) b ≡ fine d → Places (x ∷ l) s d
    go false q more e = not_fine (verdict s (kind_of x) x.numbers) line d e
    go true q more e = kind (eqb (section_of (kind_of x)) 4) refl
      where
        zero_verdict : verdict s (kind_of x) x.numbers ≡ 0
        zero_verdict = eqb-true (verdict s (kind_of x) x.numbers) 0 q

        kind : (b : Bool) → eqb (section_of (kind_of x)) 4 ≡ b → Places (x ∷ l) s d
        kind true c =
            let four = eqb-true (section_of (kind_of x)) 4 c in
            let E = entered_four s x four in
            let F = fours l (entered s (kind_of x) x.numbers) (line + 1) d (ap (λ (k : Known). k.section) E) e in
            let z = and_parts (leb 1 s.section) (leb s.section 4) (subst (λ (n : ℕ). in_order s.section n ≡ true) four (ordered s (kind_of x) x.numbers zero_verdict)) in
            let b : begun s.section ≡ 1 = begun_one s.section (leb-true 1 s.section z.0) in
            record {
              before = [];
              axiom_lines = x ∷ l;
              is = refl;
              fours = (four, F.fours);
              front = F.front ∙ ap (λ (k : Known). front k) E ∙ omega arith;
              count = F.count ∙ ap (λ (k : Known). length k.axioms + length l) E ∙ omega (arith, length-append s.axioms (axiom_of (kind_of x) x.numbers ∷ []));
            }
        kind false c =
            let n = section_of (kind_of x) in
            let less : n < 4 = omega (arith, section_small (kind_of x), eqb-false n 4 c) in
            let S = front_step s (kind_of x) x.numbers n refl less zero_verdict in
            let M = more e in
            record {
              before = x ∷ M.before;
              axiom_lines = M.axiom_lines;
              is = ap (λ (z : List Line). x ∷ z) M.is;
              fours = M.fours;
              front = omega (arith, M.front, S.front);
              count = M.count ∙ ap (λ (z : List Axiom). length z + length M.axiom_lines) S.axioms;
            }

-- a deck with a line has begun
later_begun : (l : List Line) (s : Known) (line : ℕ) (d : Known) → 1 ≤ s.section → check_rows s line l ≡ fine d → 1 ≤ d.section
unfolding check_rows
later_begun [] s line d h e = subst (λ (k : Known). 1 ≤ k.section) (fine_inj s d e) h
later_begun (x ∷ l) s line d h e = go (eqb (verdict s (kind_of x) x.numbers) 0) refl (λ q f. later_begun l (entered s (kind_of x) x.numbers) (line + 1) d q f) e
  where
    go : (b : Bool) → eqb (verdict s (kind_of x) x.numbers) 0 ≡ b → (1 ≤ (entered s (kind_of x) x.numbers).section → check_rows (entered s (kind_of x) x.numbers) (line + 1) l ≡ fine d → 1 ≤ d.section)
        → on_verdict (λ k. check_rows k (line + 1) l) s line x.numbers (verdict s (kind_of x) x.numbers) b ≡ fine d → 1 ≤ d.section
    go false q more e = not_fine (verdict s (kind_of x) x.numbers) line d e
    go true q more e = more (entered_begun s (kind_of x) x.numbers) e

pub opened : (l : List Line) (s : Known) (line : ℕ) (d : Known) → check_rows s line l ≡ fine d → 0 < length l → begun d.section ≡ 1
unfolding check_rows
opened [] s line d e h = absurd (omega arith)
opened (x ∷ l) s line d e h = go (eqb (verdict s (kind_of x) x.numbers) 0) e
  where
    go : (b : Bool) → on_verdict (λ k. check_rows k (line + 1) l) s line x.numbers (verdict s (kind_of x) x.numbers) b ≡ fine d → begun d.section ≡ 1
    go false e = not_fine (verdict s (kind_of x) x.numbers) line d e
    go true e = begun_one d.section (later_begun l (entered s (kind_of x) x.numbers) (line + 1) d (entered_begun s (kind_of x) x.numbers) e)

pub lines_some : (l : List Line) → 0 < length (text_of l) → 0 < length l
unfolding text_of
lines_some [] h = absurd (omega arith)
lines_some (x ∷ l) h = omega arith

-- ---- a struck axiom
pub record Struck (deck : List ℕ) (d : Known) (line : ℕ) (after : List ℕ) : Type 0 where
  pub left : Known
  pub read : read_deck after ≡ fine left
  -- counts, key marks and concepts are the same
  pub fewer : Fewer d left
  -- the axioms are the others, in their order
  pub earlier : List Axiom
  pub it : Axiom
  pub later : List Axiom
  pub were : d.axioms ≡ earlier ++ (it ∷ later)
  pub are : left.axioms ≡ earlier ++ later
  pub place : axiom_line d (length earlier) ≡ line

-- a list, taken apart at a place
pub record At (l : List Line) (i : ℕ) : Type 0 where
  pub first : List Line
  pub it : Line
  pub later : List Line
  pub is : l ≡ first ++ (it ∷ later)
  pub place : length first ≡ i

pub at_place : (l : List Line) (i : ℕ) → i < length l → At l i
at_place [] i h = absurd (omega arith)
at_place (x ∷ l) zero h = record { first = []; it = x; later = l; is = refl; place = refl }
at_place (x ∷ l) (suc i) h = let A = at_place l i (omega arith) in record { first = x ∷ A.first; it = A.it; later = A.later; is = ap (λ (z : List Line). x ∷ z) A.is; place = ap suc A.place }

each_later : (P : Line → Type 0) (l m : List Line) → Each P (l ++ m) → Each P m
each_later P [] m h = h
each_later P (x ∷ l) m h = each_later P l m h.1

pub each_first : (P : Line → Type 0) (l m : List Line) → Each P (l ++ m) → Each P l
each_first P [] m h = tt
each_first P (x ∷ l) m h = (h.0, each_first P l m h.1)

text_some : (l : List Line) → Each IsRow l → 0 < length l → 0 < length (text_of l)
unfolding text_of
text_some [] R h = absurd (omega arith)
text_some (x ∷ l) R h = let n = not_empty x.text R.0.is_line in omega (arith, length-append x.text (text_of l), ap (λ (z : List ℕ). length z) n.2)

text_shorter : (l : List Line) (x : Line) (m : List Line) → length (text_of (l ++ m)) ≤ length (text_of (l ++ (x ∷ m)))
unfolding text_of
text_shorter l x m = omega (arith, ap (λ (z : List ℕ). length z) (text_append l m), ap (λ (z : List ℕ). length z) (text_append l (x ∷ m)), length-append (text_of l) (text_of m), length-append (text_of l) (x.text ++ text_of m), length-append x.text (text_of m))

four_verdict : (k : Known) (n : ℕ) (x : Line) (m : List Line) (d : Known) → check_rows k n (x ∷ m) ≡ fine d → verdict k (kind_of x) x.numbers ≡ 0
unfolding check_rows
four_verdict k n x m d e = go (eqb (verdict k (kind_of x) x.numbers) 0) refl e
  where
    go : (b : Bool) → eqb (verdict k (kind_of x) x.numbers) 0 ≡ b → on_verdict (λ z. check_rows z (n + 1) m) k n x.numbers (verdict k (kind_of x) x.numbers) b ≡ fine d → verdict k (kind_of x) x.numbers ≡ 0
    go true q e = eqb-true (verdict k (kind_of x) x.numbers) 0 q
    go false q e = not_fine (verdict k (kind_of x) x.numbers) n d e

same_fewer : (k : Known) → 1 ≤ k.section → k.section ≤ 4 → Fewer k k
same_fewer k h j = record { header = refl; keys = refl; concepts = refl; depths = refl; some = h; most = j; axioms = omega arith }

-- by the lines
struck_lines : (deck : List ℕ) (d : Known) (line : ℕ) → read_deck deck ≡ fine d → (pre : List Line) (x : Line) (m : List Line) → deck ≡ text_of (pre ++ (x ∷ m)) → Each IsRow (pre ++ (x ∷ m))
    → check_rows nothing 1 (pre ++ (x ∷ m)) ≡ fine d → Each (λ y. section_of (kind_of y) ≡ 4) (x ∷ m) → 0 < length pre → length pre ≡ line - 1 → (length d.axioms ≡ length m + 1 + (line - axiom_line d 0)) → axiom_line d 0 ≤ line
    → Struck deck d line (without (line - 1) deck)
unfolding axioms_of
struck_lines deck d line e pre x m t R c A some at counts low =
    let P = check_prefix pre (x ∷ m) nothing 1 d c in
    let k = P.0 in
    let v = four_verdict k (1 + length pre) x m d P.2 in
    let z = and_parts (leb 1 k.section) (leb k.section 4) (subst (λ (n : ℕ). in_order k.section n ≡ true) A.0 (ordered k (kind_of x) x.numbers v)) in
    let k1 : 1 ≤ k.section = leb-true 1 k.section z.0 in
    let k4 : k.section ≤ 4 = leb-true k.section 4 z.1 in
    let O = strike_law pre x m nothing k 1 d P.1 k1 k4 A.0 A.1 P.2 in
    let D = on_fewer (x ∷ m) k k (1 + length pre) (1 + length pre) d (same_fewer k k1 k4) A P.2 in
    let q : D.left ≡ d = fine_inj D.left d (sym D.check ∙ P.2) in
    let w : d.axioms ≡ k.axioms ++ (axiom_of (kind_of x) x.numbers ∷ axioms_of m) = ap (λ (y : Known). y.axioms) (sym q) ∙ D.axioms in
    let rows = each_append IsRow pre m (each_first IsRow pre (x ∷ m) R) (each_later IsRow pre (x ∷ m) R).1 in
    let text : without (line - 1) deck ≡ text_of (pre ++ m) = ap₂ {C = List ℕ} without (sym at) t ∙ without_line pre x m (each_first IsRow pre (x ∷ m) R) (each_later IsRow pre (x ∷ m) R).0 in
    let long = ap (λ (y : List ℕ). length y) text in
    let n : length (axioms_of m) ≡ length m = said m in
    record {
      left = O.left;
      read = lines_deck (without (line - 1) deck) (pre ++ m) text rows
          (omega (arith, long, deck_short deck d e, text_shorter pre x m, ap (λ (y : List ℕ). length y) t))
          (omega (arith, long, text_some (pre ++ m) rows (omega (arith, length-append pre m))))
          ∙ check_append pre m nothing 1 k P.1 ∙ O.check;
      fewer = O.fewer;
      earlier = k.axioms;
      it = axiom_of (kind_of x) x.numbers;
      later = axioms_of m;
      were = w;
      are = O.axioms;
      place = omega (arith, counts, n, low, ap (λ (y : List Axiom). length y) w, length-append k.axioms (axiom_of (kind_of x) x.numbers ∷ axioms_of m));
    }
  where
    said : (l : List Line) → length (axioms_of l) ≡ length l
    said [] = refl
    said (y ∷ l) = ap suc (said l)

pub strike_is : (deck : List ℕ) (d : Known) (line : ℕ) (after : List ℕ) → read_deck deck ≡ fine d → strike_from deck d line ≡ done after → Struck deck d line after
unfolding strike_from
strike_is deck d line after e h = by (leb (axiom_line d 0) line && ltb line (last_line d)) refl h
  where
    by : (b : Bool) → (leb (axiom_line d 0) line && ltb line (last_line d)) ≡ b → pick b (done (without (line - 1) deck)) (refused 15 0) ≡ done after → Struck deck d line after
    by false q h = not_done 15 0 after h
    by true q h =
        let z = and_parts (leb (axiom_line d 0) line) (ltb line (last_line d)) q in
        let low : axiom_line d 0 ≤ line = leb-true (axiom_line d 0) line z.0 in
        let high : line < last_line d = ltb-true line (last_line d) z.1 in
        let H = deck_lines deck d e in
        let P = places H.lines nothing 1 d H.check in
        let i : ℕ = line - axiom_line d 0 in
        let A = at_place P.axiom_lines i (omega (arith, P.count)) in
        let pre = P.before ++ A.first in
        let l : H.lines ≡ pre ++ (A.it ∷ A.later) = P.is ∙ ap (λ (y : List Line). P.before ++ y) A.is ∙ sym (append_assoc P.before A.first (A.it ∷ A.later)) in
        let four = each_later (λ y. section_of (kind_of y) ≡ 4) A.first (A.it ∷ A.later) (subst (λ (y : List Line). Each (λ y. section_of (kind_of y) ≡ 4) y) A.is P.fours) in
        let b : begun d.section ≡ 1 = opened H.lines nothing 1 d H.check (lines_some H.lines (omega (arith, ap (λ (y : List ℕ). length y) H.is, deck_some deck d e))) in
        subst (λ (y : List ℕ). Struck deck d line y) (done_inj (without (line - 1) deck) after h)
        (struck_lines deck d line e pre A.it A.later (H.is ∙ ap text_of l) (subst (λ (y : List Line). Each IsRow y) l H.rows) (subst (λ (y : List Line). check_rows nothing 1 y ≡ fine d) l H.check) four
        (omega (arith, length-append P.before A.first, P.front, b)) (omega (arith, length-append P.before A.first, P.front, b, A.place))
        (omega (arith, P.count, ap (λ (y : List Line). length y) A.is, length-append A.first (A.it ∷ A.later), A.place)) low)
