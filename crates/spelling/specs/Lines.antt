-- A deck is its lines: reading it is checking its rows in turn, and what was read has such lines. Assumes nothing.
use Rattle.std.specs.Prelude.{◌≡◌, refl, Bool, true, false, List, [], ◌∷◌, ◌++◌, ℕ, zero, suc, ◌+◌, ◌<◌, eqb, length, get_or}
use Rattle.std.proofs.Common.{sym, ap, ◌∙◌, append_assoc, arith, length-append}
use Rattle.rules.specs.Invariants.{Each}
use Rattle.rules.specs.Text.{Row, row, broken_row, row_of}
use Rattle.rules.specs.Deck.{Known, verdict, entered, Told, fine, refused, on_verdict, on_row, read_by}
use Rattle.spelling.specs.Rows.{parts, no_feed, parts_of, IsLine, row_line}

-- a line's bytes and its row
pub record Line : Type 0 where
  pub text : List ℕ
  pub numbers : List ℕ

pub record IsRow (l : Line) : Type 0 where
  pub is_line : IsLine l.text
  pub reads : (t : List ℕ) → row_of (l.text ++ t) ≡ row l.numbers t

unfoldable pub text_of : List Line → List ℕ
text_of [] = []
text_of (x ∷ l) = x.text ++ text_of l

-- the rows, checked in turn
unfoldable pub check_rows : Known → ℕ → List Line → Told
check_rows s line [] = fine s
check_rows s line (x ∷ l) = on_verdict (λ k. check_rows k (line + 1) l) s line x.numbers (verdict s (get_or x.numbers 0 0) x.numbers) (eqb (verdict s (get_or x.numbers 0 0) x.numbers) 0)

pub not_empty : (l : List ℕ) → IsLine l → (b : ℕ) × (s : List ℕ) × (l ≡ b ∷ s)
unfolding parts_of
not_empty [] h = absurd (let e : no_feed ≡ parts [] [] = h [] in let z : ◌≡◌ {A = ℕ} 0 1 = cc in omega arith)
not_empty (b ∷ s) h = (b, s, refl)

read_step : (f : ℕ) (s : Known) (line : ℕ) (bytes : List ℕ) (b : ℕ) (t r rest : List ℕ) → bytes ≡ b ∷ t → row_of bytes ≡ row r rest
    → read_by (suc f) s line bytes ≡ on_verdict (λ k. read_by f k (line + 1) rest) s line r (verdict s (get_or r 0 0) r) (eqb (verdict s (get_or r 0 0) r) 0)
unfolding read_by
read_step f s line bytes b t r rest e h = rw e (ap (on_row (λ k rest. read_by f k (line + 1) rest) s line) (ap row_of (sym e) ∙ h))

-- reading is checking the rows
pub read_rows : (l : List Line) (f : ℕ) (s : Known) (line : ℕ) → Each IsRow l → length (text_of l) < f → read_by f s line (text_of l) ≡ check_rows s line l
unfolding text_of check_rows read_by
read_rows [] zero s line R h = absurd (omega arith)
read_rows [] (suc f) s line R h = refl
read_rows (x ∷ l) zero s line R h = absurd (omega arith)
read_rows (x ∷ l) (suc f) s line R h =
    let n = not_empty x.text R.0.is_line in
    let e : x.text ++ text_of l ≡ n.0 ∷ (n.1 ++ text_of l) = ap (λ (z : List ℕ). z ++ text_of l) n.2 in
    let m : length (text_of l) < f = omega (arith, length-append x.text (text_of l), ap (λ (z : List ℕ). length z) n.2) in
    read_step f s line (x.text ++ text_of l) n.0 (n.1 ++ text_of l) x.numbers (text_of l) e (R.0.reads (text_of l))
    ∙ go (eqb (verdict s (get_or x.numbers 0 0) x.numbers) 0) (λ k. read_rows l f k (line + 1) R.1 m)
  where
    go : (b : Bool) → ((k : Known) → read_by f k (line + 1) (text_of l) ≡ check_rows k (line + 1) l)
        → on_verdict (λ k. read_by f k (line + 1) (text_of l)) s line x.numbers (verdict s (get_or x.numbers 0 0) x.numbers) b
        ≡ on_verdict (λ k. check_rows k (line + 1) l) s line x.numbers (verdict s (get_or x.numbers 0 0) x.numbers) b
    go true more = more (entered s (get_or x.numbers 0 0) x.numbers)
    go false more = refl

-- ---- what was read has its lines
pub record HasLines (s : Known) (line : ℕ) (bytes : List ℕ) (d : Known) : Type 0 where
  pub lines : List Line
  pub is : bytes ≡ text_of lines
  pub rows : Each IsRow lines
  pub check : check_rows s line lines ≡ fine d

pub not_fine : {P : Type 0} (k line : ℕ) (d : Known) → refused k line ≡ fine d → P
not_fine k line d e = absurd (let z : ◌≡◌ {A = ℕ} 0 1 = cc in omega arith)

pub lines_read : (f : ℕ) (s : Known) (line : ℕ) (bytes : List ℕ) (d : Known) → read_by f s line bytes ≡ fine d → HasLines s line bytes d
unfolding read_by text_of check_rows
lines_read zero s line bytes d e = not_fine 0 0 d e
lines_read (suc f) s line [] d e = record { lines = []; is = refl; rows = tt; check = e }
lines_read (suc f) s line (b ∷ bytes) d e = on (row_of (b ∷ bytes)) refl (λ k rest. lines_read f k (line + 1) rest d) e
  where
    with_line : (r rest : List ℕ) → row_of (b ∷ bytes) ≡ row r rest → (v : Bool) → eqb (verdict s (get_or r 0 0) r) 0 ≡ v
        → ((k : Known) → read_by f k (line + 1) rest ≡ fine d → HasLines k (line + 1) rest d)
        → on_verdict (λ k. read_by f k (line + 1) rest) s line r (verdict s (get_or r 0 0) r) v ≡ fine d → HasLines s line (b ∷ bytes) d
    with_line r rest q false w more e = not_fine (verdict s (get_or r 0 0) r) line d e
    with_line r rest q true w more e =
        let L = row_line (b ∷ bytes) r rest q in
        let H = more (entered s (get_or r 0 0) r) e in
        record {
          lines = record { text = L.0; numbers = r } ∷ H.lines;
          is = L.1 ∙ ap (λ (z : List ℕ). L.0 ++ z) H.is;
          rows = (record { is_line = L.2; reads = L.3 }, H.rows);
          check = rw w H.check;
        }

    on : (x : Row) → row_of (b ∷ bytes) ≡ x → ((k : Known) (rest : List ℕ) → read_by f k (line + 1) rest ≡ fine d → HasLines k (line + 1) rest d)
        → on_row (λ k rest. read_by f k (line + 1) rest) s line x ≡ fine d → HasLines s line (b ∷ bytes) d
    on broken_row q more e = not_fine 2 line d e
    on (row r rest) q more e = with_line r rest q (eqb (verdict s (get_or r 0 0) r) 0) refl (λ k. more k rest) e

-- ---- lines one after another
pub fine_inj : (a b : Known) → fine a ≡ fine b → a ≡ b
fine_inj a b e = cc

pub text_append : (l m : List Line) → text_of (l ++ m) ≡ text_of l ++ text_of m
unfolding text_of
text_append [] m = refl
text_append (x ∷ l) m = ap (λ (z : List ℕ). x.text ++ z) (text_append l m) ∙ sym (append_assoc x.text (text_of l) (text_of m))

pub check_append : (l m : List Line) (s : Known) (line : ℕ) (d : Known) → check_rows s line l ≡ fine d → check_rows s line (l ++ m) ≡ check_rows d (line + length l) m
unfolding check_rows
check_append [] m s line d e = ap (λ (k : Known). check_rows k line m) (fine_inj s d e) ∙ ap (λ (n : ℕ). check_rows d n m) (omega arith)
check_append (x ∷ l) m s line d e = go (eqb (verdict s (get_or x.numbers 0 0) x.numbers) 0) (λ k. check_append l m k (line + 1) d) e
  where
    v : ℕ
    v = verdict s (get_or x.numbers 0 0) x.numbers

    go : (b : Bool) → ((k : Known) → check_rows k (line + 1) l ≡ fine d → check_rows k (line + 1) (l ++ m) ≡ check_rows d (line + 1 + length l) m)
        → on_verdict (λ k. check_rows k (line + 1) l) s line x.numbers (verdict s (get_or x.numbers 0 0) x.numbers) b ≡ fine d
        → on_verdict (λ k. check_rows k (line + 1) (l ++ m)) s line x.numbers (verdict s (get_or x.numbers 0 0) x.numbers) b ≡ check_rows d (line + length (x ∷ l)) m
    go true more e = more (entered s (get_or x.numbers 0 0) x.numbers) e ∙ ap (λ (n : ℕ). check_rows d n m) (omega arith)
    go false more e = not_fine (verdict s (get_or x.numbers 0 0) x.numbers) line d e
