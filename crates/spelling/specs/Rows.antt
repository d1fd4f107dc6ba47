-- A row that was read stands in its own bytes, and reads so before anything else. Assumes nothing.
use Rattle.std.specs.Prelude.{◌≡◌, refl, Bool, true, false, ◌&&◌, List, [], ◌∷◌, ◌++◌, ℕ, zero, suc, ◌≤◌, eqb, leb, length, take, drop}
use Rattle.std.proofs.Common.{sym, ap, ap₂, ◌∙◌, append_assoc, arith, eqb-true, le-leb, leb-true, length-append, length-take-le, take_at, drop_at, take-append-drop}
use Rattle.std.proofs.lemmas.Bool.{and_parts}
use Rattle.ir.specs.Pick.{pick}
use Rattle.rules.specs.Text.{most_number, Columns, spaces, digits, broken, column, columns, number_in, number, row, broken_row, row_ended, row_field, row_byte, row_by, row_of}

-- ---- a line's own bytes
-- the text up to its first line feed, and what follows
pub data Parts : Type 0 where
  parts : (line rest : List ℕ) → Parts
  no_feed : Parts

abbrev pub longer : ℕ → Parts → Parts
longer b (parts l r) = parts (b ∷ l) r
longer b no_feed = no_feed

unfoldable pub parts_of : List ℕ → Parts
parts_of [] = no_feed
parts_of (b ∷ s) = pick (eqb b 10) (parts (b ∷ []) s) (longer b (parts_of s))

-- a line: its only line feed is its last byte
abbrev pub IsLine : List ℕ → Type 0
IsLine l = (t : List ℕ) → parts_of (l ++ t) ≡ parts l t

broken_on : (s : List ℕ) → columns broken s ≡ broken
unfolding columns column
broken_on [] = refl
broken_on (b ∷ s) = broken_on s

broken_ten : (x : Columns) → column x 10 ≡ broken
unfolding column
broken_ten spaces = refl
broken_ten (digits v) = by (eqb v 0)
  where
    by : (b : Bool) → pick b broken broken ≡ broken
    by true = refl
    by false = refl
broken_ten broken = refl

-- a field has no line feed in it
in_row : (x : Columns) (s t : List ℕ) (l r : List ℕ) → number_in (columns x s) ≤ most_number → parts_of t ≡ parts l r → parts_of (s ++ t) ≡ parts (s ++ l) r
unfolding columns parts_of
in_row x [] t l r h e = e
in_row x (b ∷ s) t l r h e = by (eqb b 10) refl (in_row (column x b) s t l r h e)
  where
    by : (y : Bool) → eqb b 10 ≡ y → parts_of (s ++ t) ≡ parts (s ++ l) r → pick y (parts (b ∷ []) (s ++ t)) (longer b (parts_of (s ++ t))) ≡ parts (b ∷ (s ++ l)) r
    by true q p =
        let c : columns (column x b) s ≡ broken = ap (λ (z : ℕ). columns (column x z) s) (eqb-true b 10 q) ∙ ap (λ (z : Columns). columns z s) (broken_ten x) ∙ broken_on s in
        let v : number_in (columns (column x b) s) ≡ 4294967296 = ap number_in c in
        absurd (omega arith)
    by false q p = ap (longer b) p

pub record Split (f : ℕ) (ns s r rest : List ℕ) : Type 0 where
  pub line : List ℕ
  pub is : s ≡ line ++ rest
  pub is_line : IsLine line
  -- whatever follows
  pub reads : (t : List ℕ) (g : ℕ) → length line ≤ g → row_by g ns (line ++ t) ≡ row r t

row_inj : (a b c d : List ℕ) → row a b ≡ row c d → (a ≡ c) × (b ≡ d)
row_inj a b c d e = (cc, cc)

not_row : {P : Type 0} (r s : List ℕ) → broken_row ≡ row r s → P
not_row r s e = absurd (let z : ◌≡◌ {A = ℕ} 0 1 = cc in omega arith)

ended_is : (ns s r rest : List ℕ) → row_ended ns s ≡ row r rest → (s ≡ rest) × ((t : List ℕ) → row_ended ns t ≡ row r t)
ended_is [] s r rest e = not_row r rest e
ended_is (n ∷ ns) s r rest e = let p = row_inj (n ∷ ns) s r rest e in (p.1, λ t. ap (λ (z : List ℕ). row z t) p.0)

feed_is : (t : List ℕ) → parts_of (10 ∷ t) ≡ parts (10 ∷ []) t
unfolding parts_of
feed_is t = refl

feed_row : (ns r t : List ℕ) (g : ℕ) → 1 ≤ g → row_ended ns t ≡ row r t → row_by g ns (10 ∷ t) ≡ row r t
unfolding row_by
feed_row ns r t zero h e = absurd (omega arith)
feed_row ns r t (suc g) h e = e

field_row : (g : ℕ) (ns : List ℕ) (b : ℕ) (s u r t : List ℕ) (n : ℕ) → eqb b 10 ≡ false → leb 10 (length s) ≡ true → drop 10 s ≡ u → number (b ∷ s) ≡ n → leb n most_number ≡ true
    → row_by g (ns ++ (n ∷ [])) u ≡ row r t → row_by (suc g) ns (b ∷ s) ≡ row r t
unfolding row_by
field_row g ns b s u r t n q a d v w e = rw (q, v, a, w, d) e

-- one field in front of a line
field_split : (f : ℕ) (ns : List ℕ) (b : ℕ) (s r rest : List ℕ) → eqb b 10 ≡ false → 10 ≤ length s → number (b ∷ s) ≤ most_number
    → Split f (ns ++ (number (b ∷ s) ∷ [])) (drop 10 s) r rest → Split (suc f) ns (b ∷ s) r rest
unfolding row_by number
field_split f ns b s r rest q ten m S =
    let n = number (b ∷ s) in
    let t10 : length (take 10 s) ≡ 10 = length-take-le 10 s ten in
    record {
      line = (b ∷ take 10 s) ++ S.line;
      is = ap (λ (z : List ℕ). b ∷ z) (sym (take-append-drop 10 s) ∙ ap (λ (z : List ℕ). take 10 s ++ z) S.is ∙ sym (append_assoc (take 10 s) S.line rest));
      is_line = λ t. ap parts_of (append_assoc (b ∷ take 10 s) S.line t) ∙ in_row spaces (b ∷ take 10 s) (S.line ++ t) S.line t (in_field (eqb b 32) m) (S.is_line t);
      reads = λ t g h. go t g h (S.reads t);
    }
  where
    in_field : (y : Bool) → pick y (number_in (columns spaces (b ∷ take 10 s))) 4294967296 ≤ most_number → number_in (columns spaces (b ∷ take 10 s)) ≤ most_number
    in_field true h = h
    in_field false h = absurd (omega arith)

    go : (t : List ℕ) (g : ℕ) → length ((b ∷ take 10 s) ++ S.line) ≤ g → ((g : ℕ) → length S.line ≤ g → row_by g (ns ++ (number (b ∷ s) ∷ [])) (S.line ++ t) ≡ row r t) → row_by g ns (((b ∷ take 10 s) ++ S.line) ++ t) ≡ row r t
    go t zero h more = absurd (omega arith)
    go t (suc g) h more =
        let u : List ℕ = S.line ++ t in
        let t10 : length (take 10 s) ≡ 10 = length-take-le 10 s ten in
        let e : (take 10 s ++ S.line) ++ t ≡ take 10 s ++ u = append_assoc (take 10 s) S.line t in
        let a : leb 10 (length (take 10 s ++ u)) ≡ true = le-leb 10 (length (take 10 s ++ u)) (omega (arith, length-append (take 10 s) u, t10)) in
        let d : drop 10 (take 10 s ++ u) ≡ u = drop_at (take 10 s) u 10 t10 in
        let v : number (b ∷ (take 10 s ++ u)) ≡ number (b ∷ s) = ap (λ (z : List ℕ). pick (eqb b 32) (number_in (columns spaces (b ∷ z))) 4294967296) (take_at (take 10 s) u 10 t10) in
        let w : leb (number (b ∷ s)) most_number ≡ true = le-leb (number (b ∷ s)) most_number m in
        ap (λ (z : List ℕ). row_by (suc g) ns (b ∷ z)) e ∙ field_row g ns b (take 10 s ++ u) u r t (number (b ∷ s)) q a d v w (more g (omega (arith, length-append (take 10 s) S.line, t10)))

pub row_split : (f : ℕ) (ns s r rest : List ℕ) → row_by f ns s ≡ row r rest → Split f ns s r rest
unfolding row_by
row_split zero ns s r rest e = not_row r rest e
row_split (suc f) ns [] r rest e = not_row r rest e
row_split (suc f) ns (b ∷ s) r rest e = byte (eqb b 10) refl (λ k. row_split f (ns ++ (number (b ∷ s) ∷ [])) (drop 10 s) r rest k) e
  where
    inner : (row_by f (ns ++ (number (b ∷ s) ∷ [])) (drop 10 s) ≡ row r rest → Split f (ns ++ (number (b ∷ s) ∷ [])) (drop 10 s) r rest) → eqb b 10 ≡ false
        → (y : Bool) → (leb 10 (length s) && leb (number (b ∷ s)) most_number) ≡ y → row_field (λ n. row_by f (ns ++ (n ∷ [])) (drop 10 s)) (number (b ∷ s)) y ≡ row r rest → Split (suc f) ns (b ∷ s) r rest
    inner more q false k e = not_row r rest e
    inner more q true k e =
        let h = and_parts (leb 10 (length s)) (leb (number (b ∷ s)) most_number) k in
        field_split f ns b s r rest q (leb-true 10 (length s) h.0) (leb-true (number (b ∷ s)) most_number h.1) (more e)

    byte : (y : Bool) → eqb b 10 ≡ y → (row_by f (ns ++ (number (b ∷ s) ∷ [])) (drop 10 s) ≡ row r rest → Split f (ns ++ (number (b ∷ s) ∷ [])) (drop 10 s) r rest)
        → row_byte (λ n. row_by f (ns ++ (n ∷ [])) (drop 10 s)) ns s b y ≡ row r rest → Split (suc f) ns (b ∷ s) r rest
    byte true q more e =
        let p = ended_is ns s r rest e in
        let c : b ≡ 10 = eqb-true b 10 q in
        record {
          line = 10 ∷ [];
          is = ap₂ {C = List ℕ} ◌∷◌ c p.0;
          is_line = feed_is;
          reads = λ t g h. feed_row ns r t g h (p.1 t);
        }
    byte false q more e = inner more q (leb 10 (length s) && leb (number (b ∷ s)) most_number) refl e

-- a row that was read: its line, and that it reads so before anything else
pub row_line : (s r rest : List ℕ) → row_of s ≡ row r rest → (line : List ℕ) × (s ≡ line ++ rest) × IsLine line × ((t : List ℕ) → row_of (line ++ t) ≡ row r t)
unfolding row_of
row_line s r rest e =
    let S = row_split (length s) [] s r rest e in
    (S.line, S.is, S.is_line, λ t. S.reads t (length (S.line ++ t)) (omega (arith, length-append S.line t)))
