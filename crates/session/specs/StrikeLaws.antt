-- A struck line leaves the others as they are; axioms that pass behind others pass behind fewer. Assumes nothing.
use Rattle.std.specs.Prelude.{◌≡◌, refl, Bool, true, false, ◌&&◌, List, [], ◌∷◌, ◌++◌, ℕ, zero, suc, ◌+◌, ◌≤◌, eqb, ltb, leb, length, get_or}
use Rattle.std.proofs.Common.{sym, ap, ap₂, ◌∙◌, subst, append_assoc, append-nil, arith, ltb-true, lt-ltb, le-leb, eqb-true, length-append}
use Rattle.std.proofs.lemmas.Bool.{and_parts}
use Rattle.ir.specs.Pick.{pick}
use Rattle.rules.specs.Invariants.{Each}
use Rattle.rules.specs.Concept.{Concept, Axiom}
use Rattle.rules.specs.Deck.{section_of, axiom_of, list_of, most_listed, most_axioms, Header, Known, known, shape_ok, limits_ok, room_ok, names_ok, in_order, fields_ok, axiom_names_ok, verdict, entered, fine, on_verdict}
use Rattle.rules.specs.DeckLaws.{verdict_zero}
use Rattle.spelling.specs.Rows.{Parts, parts, no_feed, longer, parts_of, IsLine}
use Rattle.spelling.specs.Lines.{Line, IsRow, text_of, check_rows, not_fine, fine_inj}
use Rattle.session.specs.Session.{without}

parts_inj : (a b c d : List ℕ) → parts a b ≡ parts c d → (a ≡ c) × (b ≡ d)
parts_inj a b c d e = (cc, cc)

cons_inj : (b : ℕ) (l : List ℕ) → b ∷ [] ≡ b ∷ l → [] ≡ l
cons_inj b l e = cc

longer_inj : (b : ℕ) (l t : List ℕ) (p : Parts) → longer b p ≡ parts (b ∷ l) t → p ≡ parts l t
longer_inj b l t (parts a c) e = let x : a ≡ l = cc in let y : c ≡ t = cc in ap₂ {C = Parts} parts x y
longer_inj b l t no_feed e = absurd (let z : ◌≡◌ {A = ℕ} 0 1 = cc in omega arith)

-- the rest of a line that goes on is a line
pub line_tail : (b : ℕ) (l : List ℕ) → eqb b 10 ≡ false → IsLine (b ∷ l) → IsLine l
unfolding parts_of
line_tail b l q h t = longer_inj b l t (parts_of (l ++ t)) (rw q at (h t))

pub line_end : (b : ℕ) (l : List ℕ) → eqb b 10 ≡ true → IsLine (b ∷ l) → [] ≡ l
unfolding parts_of
line_end b l q h = cons_inj b l (parts_inj (b ∷ []) (l ++ []) (b ∷ l) [] (rw q at (h []))).0

pub no_line : {P : Type 0} → IsLine [] → P
unfolding parts_of
no_line h = absurd (let e : no_feed ≡ parts [] [] = h [] in let z : ◌≡◌ {A = ℕ} 0 1 = cc in omega arith)

pub without_first : (l t : List ℕ) → IsLine l → without zero (l ++ t) ≡ t
unfolding without
without_first [] t h = no_line h
without_first (b ∷ l) t h = by (eqb b 10) refl (without_first l t)
  where
    by : (x : Bool) → eqb b 10 ≡ x → (IsLine l → without zero (l ++ t) ≡ t) → pick x (l ++ t) (without zero (l ++ t)) ≡ t
    by true q more = ap (λ (z : List ℕ). z ++ t) (sym (line_end b l q h))
    by false q more = more (line_tail b l q h)

pub without_later : (k : ℕ) (l t : List ℕ) → IsLine l → without (suc k) (l ++ t) ≡ l ++ without k t
unfolding without
without_later k [] t h = no_line h
without_later k (b ∷ l) t h = by (eqb b 10) refl (without_later k l t)
  where
    by : (x : Bool) → eqb b 10 ≡ x → (IsLine l → without (suc k) (l ++ t) ≡ l ++ without k t) → b ∷ pick x (without k (l ++ t)) (without (suc k) (l ++ t)) ≡ b ∷ (l ++ without k t)
    by true q more = ap (λ (z : List ℕ). b ∷ z) (ap (λ (z : List ℕ). without k (z ++ t)) (sym (line_end b l q h)) ∙ ap (λ (z : List ℕ). z ++ without k t) (line_end b l q h))
    by false q more = ap (λ (z : List ℕ). b ∷ z) (more (line_tail b l q h))

-- the text without a line is the text of the other lines
pub without_line : (l : List Line) (x : Line) (m : List Line) → Each IsRow l → IsRow x → without (length l) (text_of (l ++ x ∷ m)) ≡ text_of (l ++ m)
unfolding text_of
without_line [] x m R X = without_first x.text (text_of m) X.is_line
without_line (y ∷ l) x m R X = without_later (length l) y.text (text_of (l ++ x ∷ m)) R.0.is_line ∙ ap (λ (z : List ℕ). y.text ++ z) (without_line l x m R.1 X)

-- ---- axioms behind fewer axioms
-- the same counts, key marks and concepts; no more axioms; behind the header
pub record Fewer (s t : Known) : Type 0 where
  pub header : t.header ≡ s.header
  pub keys : t.keys ≡ s.keys
  pub concepts : t.concepts ≡ s.concepts
  pub depths : t.depths ≡ s.depths
  pub some : 1 ≤ t.section
  pub most : t.section ≤ 4
  pub axioms : length t.axioms ≤ length s.axioms

in_order_four : (n : ℕ) → 1 ≤ n → n ≤ 4 → in_order n 4 ≡ true
in_order_four n h k = ap₂ ◌&&◌ (le-leb 1 n h) (le-leb n 4 k)

-- an axiom that passes behind s passes behind t
pub passes : (s t : Known) (k : ℕ) (r : List ℕ) → Fewer s t → section_of k ≡ 4 → verdict s k r ≡ 0 → verdict t k r ≡ 0
unfolding verdict
passes s t k r F four e =
    let P = verdict_zero s k r e in
    let sh = and_parts (in_order s.section (section_of k)) (fields_ok k (length r)) P.shape in
    let li = and_parts (leb (length (list_of k r)) most_listed) (room_ok s k r) P.limits in
    let ro : ltb (length s.axioms) most_axioms ≡ true = room li.1 in
    let a : shape_ok t k r ≡ true = ap₂ ◌&&◌ (ap (in_order t.section) four ∙ in_order_four t.section F.some F.most) sh.1 in
    let b : limits_ok t k r ≡ true = ap₂ ◌&&◌ li.0 (room_back (lt-ltb (length t.axioms) most_axioms (omega (arith, F.axioms, ltb-true (length s.axioms) most_axioms ro)))) in
    let c : names_ok t k r ≡ true = names_same ∙ P.names in
    rw (a, b, c, four) refl
  where
    room : room_ok s k r ≡ true → ltb (length s.axioms) most_axioms ≡ true
    room h = rw four at h

    room_back : ltb (length t.axioms) most_axioms ≡ true → room_ok t k r ≡ true
    room_back h = rw four h

    names_same : names_ok t k r ≡ names_ok s k r
    names_same = rw four (ap₂ (λ (h : Header) (p : List Concept). axiom_names_ok h (length p) (axiom_of k r)) F.header F.concepts)

-- what an axiom line leaves
abbrev pub kind_of : Line → ℕ
kind_of x = get_or x.numbers 0 0

pub entered_four : (s : Known) (x : Line) → section_of (kind_of x) ≡ 4 → entered s (kind_of x) x.numbers ≡ known 4 s.header s.keys s.concepts s.depths (s.axioms ++ (axiom_of (kind_of x) x.numbers ∷ []))
unfolding entered
entered_four s x e = rw e refl

fewer_on : (s t : Known) (x : Line) → Fewer s t → section_of (kind_of x) ≡ 4 → Fewer (entered s (kind_of x) x.numbers) (entered t (kind_of x) x.numbers)
fewer_on s t x F e =
    let a : Axiom = axiom_of (kind_of x) x.numbers in
    subst (λ (k : Known). Fewer k (entered t (kind_of x) x.numbers)) (sym (entered_four s x e))
    (subst (λ (k : Known). Fewer (known 4 s.header s.keys s.concepts s.depths (s.axioms ++ (a ∷ []))) k) (sym (entered_four t x e))
    (record {
      header = F.header;
      keys = F.keys;
      concepts = F.concepts;
      depths = F.depths;
      some = omega arith;
      most = omega arith;
      axioms = omega (arith, F.axioms, length-append s.axioms (a ∷ []), length-append t.axioms (a ∷ []));
    }))

-- the axioms that such lines say
unfoldable pub axioms_of : List Line → List Axiom
axioms_of [] = []
axioms_of (x ∷ l) = axiom_of (kind_of x) x.numbers ∷ axioms_of l

pub record OnFewer (l : List Line) (t : Known) (line : ℕ) (d : Known) : Type 0 where
  pub left : Known
  pub check : check_rows t line l ≡ fine left
  pub fewer : Fewer d left
  pub axioms : left.axioms ≡ t.axioms ++ axioms_of l

pub on_fewer : (l : List Line) (s t : Known) (line other : ℕ) (d : Known) → Fewer s t → Each (λ x. section_of (kind_of x) ≡ 4) l → check_rows s line l ≡ fine d → OnFewer l t other d
unfolding check_rows axioms_of
on_fewer [] s t line other d F A e = record { left = t; check = refl; fewer = subst (λ (k : Known). Fewer k t) (fine_inj s d e) F; axioms = sym (append-nil t.axioms) }
on_fewer (x ∷ l) s t line other d F A e =
    go (eqb (verdict s (kind_of x) x.numbers) 0) refl (λ h. on_fewer l (entered s (kind_of x) x.numbers) (entered t (kind_of x) x.numbers) (line + 1) (other + 1) d (fewer_on s t x F A.0) A.1 h) e
  where
    go : (b : Bool) → eqb (verdict s (kind_of x) x.numbers) 0 ≡ b
        → (check_rows (entered s (kind_of x) x.numbers) (line + 1) l ≡ fine d → OnFewer l (entered t (kind_of x) x.numbers) (other + 1) d)
        → on_verdict (λ k. check_rows k (line + 1) l) s line x.numbers (verdict s (kind_of x) x.numbers) b ≡ fine d → OnFewer (x ∷ l) t other d
    go false q more e = not_fine (verdict s (kind_of x) x.numbers) line d e
    go true q more e =
        let M = more e in
        let v : verdict t (kind_of x) x.numbers ≡ 0 = passes s t (kind_of x) x.numbers F A.0 (eqb-true (verdict s (kind_of x) x.numbers) 0 q) in
        record {
          left = M.left;
          check = rw v M.check;
          fewer = M.fewer;
          axioms = M.axioms ∙ ap (λ (z : List Axiom). z ++ axioms_of l) (ap (λ (k : Known). k.axioms) (entered_four t x A.0)) ∙ append_assoc t.axioms (axiom_of (kind_of x) x.numbers ∷ []) (axioms_of l);
        }

-- ---- a line checked in the middle
pub check_prefix : (l m : List Line) (s : Known) (line : ℕ) (d : Known) → check_rows s line (l ++ m) ≡ fine d → (k : Known) × (check_rows s line l ≡ fine k) × (check_rows k (line + length l) m ≡ fine d)
unfolding check_rows
check_prefix [] m s line d e = (s, refl, ap (λ (n : ℕ). check_rows s n m) (omega arith) ∙ e)
check_prefix (x ∷ l) m s line d e = go (eqb (verdict s (kind_of x) x.numbers) 0) (λ k. check_prefix l m k (line + 1) d) e
  where
    go : (b : Bool) → ((k : Known) → check_rows k (line + 1) (l ++ m) ≡ fine d → (j : Known) × (check_rows k (line + 1) l ≡ fine j) × (check_rows j (line + 1 + length l) m ≡ fine d))
        → on_verdict (λ k. check_rows k (line + 1) (l ++ m)) s line x.numbers (verdict s (kind_of x) x.numbers) b ≡ fine d
        → (j : Known) × (on_verdict (λ k. check_rows k (line + 1) l) s line x.numbers (verdict s (kind_of x) x.numbers) b ≡ fine j) × (check_rows j (line + length (x ∷ l)) m ≡ fine d)
    go false more e = not_fine (verdict s (kind_of x) x.numbers) line d e
    go true more e = let M = more (entered s (kind_of x) x.numbers) e in (M.0, M.1, ap (λ (n : ℕ). check_rows M.0 n m) (omega arith) ∙ M.2)

-- ---- struck: lines l, then the axiom x, then the axioms m
pub strike_law : (l : List Line) (x : Line) (m : List Line) (s k : Known) (line : ℕ) (d : Known) → check_rows s line l ≡ fine k → 1 ≤ k.section → k.section ≤ 4 → section_of (kind_of x) ≡ 4
    → Each (λ y. section_of (kind_of y) ≡ 4) m → check_rows k (line + length l) (x ∷ m) ≡ fine d → OnFewer m k (line + length l) d
unfolding check_rows
strike_law l x m s k line d e some most four A h = go (eqb (verdict k (kind_of x) x.numbers) 0) h
  where
    fewer : Fewer (entered k (kind_of x) x.numbers) k
    fewer = subst (λ (z : Known). Fewer z k) (sym (entered_four k x four)) (record { header = refl; keys = refl; concepts = refl; depths = refl; some = some; most = most; axioms = omega (arith, length-append k.axioms (axiom_of (kind_of x) x.numbers ∷ [])) })

    go : (b : Bool) → on_verdict (λ z. check_rows z (line + length l + 1) m) k (line + length l) x.numbers (verdict k (kind_of x) x.numbers) b ≡ fine d → OnFewer m k (line + length l) d
    go false h = not_fine (verdict k (kind_of x) x.numbers) (line + length l) d h
    go true h = on_fewer m (entered k (kind_of x) x.numbers) k (line + length l + 1) (line + length l) d fewer A h
