-- A row that is printed is read back: numbers in decimal, right-justified in 11 columns, the line feed behind them. Assumes nothing.
use Rattle.std.specs.Prelude.{◌≡◌, refl, true, List, [], ◌∷◌, ◌++◌, ℕ, zero, suc, ◌+◌, ◌*◌, ◌-◌, ◌/◌, ◌%◌, ◌<◌, ◌≤◌, length, take, drop, replicate, ltb, leb}
use Rattle.std.proofs.Common.{sym, ap, ◌∙◌, append_assoc, append-nil, arith, length-append, lt-ltb, le-leb, ne_eqb, ltb-true, ltb-false}
use Rattle.std.proofs.lemmas.List.{length-replicate}
use Rattle.std.proofs.Math.Seq.{take-append_seam, drop-append_seam}
use Rattle.rules.specs.Text.{most_number, columns_of_field, spaces, digits, column, columns, number_in, number, row, row_by, row_of}
use Rattle.rules.specs.TextLaws.{by_test, number_columns}
use Rattle.rules.specs.Lister.{decimal_by, decimal, field_text, fields_text}
use Rattle.rules.specs.Invariants.{Each}

-- ---- digits
-- 10 ^ j
abbrev tens : ℕ → ℕ
tens zero = 1
tens (suc j) = 10 * tens j

-- a last digit: the whole number, where it has no other, or the first ones' number goes on
column_first : (n : ℕ) → n < 10 → column spaces (48 + n) ≡ digits n
unfolding column
column_first n h =
    let e : 48 + n - 48 ≡ n = omega arith in
    rw (ne_eqb (48 + n) 32 (λ q. omega arith), le-leb 48 (48 + n) (omega arith), le-leb (48 + n) 57 (omega arith)) (ap digits e)

column_next : (n : ℕ) → 10 ≤ n → n ≤ most_number → column (digits (n / 10)) (48 + n % 10) ≡ digits n
unfolding column
column_next n h m =
    let e : 10 * (n / 10) + (48 + n % 10 - 48) ≡ n = omega arith in
    rw (ne_eqb (n / 10) 0 (λ q. omega arith), le-leb 48 (48 + n % 10) (omega arith), le-leb (48 + n % 10) 57 (omega arith), e, le-leb n most_number m) refl

-- the digits of a number that has at most f + 1 of them
decimal_columns : (f n : ℕ) (ds : List ℕ) → n < tens (suc f) → n ≤ most_number → columns spaces (decimal_by (suc f) n ds) ≡ columns (digits n) ds
unfolding decimal_by columns
decimal_columns zero n ds h m = rw (lt-ltb n 10 (omega arith)) (ap (λ x. columns x ds) (column_first n (omega arith)))
decimal_columns (suc f) n ds h m = by_test (ltb n 10)
    (λ e. rw e (ap (λ x. columns x ds) (column_first n (ltb-true n 10 e))))
    (λ e. let k = ltb-false n 10 e in rw e (decimal_columns f (n / 10) ((48 + n % 10) ∷ ds) (omega arith) (omega arith) ∙ ap (λ x. columns x ds) (column_next n k m)))

spaces_columns : (k : ℕ) (l : List ℕ) → columns spaces (replicate k 32 ++ l) ≡ columns spaces l
unfolding column columns
spaces_columns zero l = refl
spaces_columns (suc k) l = spaces_columns k l

-- ---- a field
pub length_decimal : (f n : ℕ) (ds : List ℕ) → length (decimal_by f n ds) ≤ f + length ds
unfolding decimal_by
length_decimal zero n ds = omega arith
length_decimal (suc f) n ds = by_test (ltb n 10) (λ e. rw e (omega arith)) (λ e. rw e (omega (arith, length_decimal f (n / 10) ((48 + n % 10) ∷ ds))))

-- what stands behind the field's first column, which is a space
abbrev pub field_rest : ℕ → List ℕ
field_rest n = replicate (10 - length (decimal n)) 32 ++ decimal n

pub field_space : (n : ℕ) → field_text n ≡ 32 ∷ field_rest n
field_space n =
    let h : length (decimal n) ≤ 10 + 0 = length_decimal 10 n [] in
    let e : columns_of_field - length (decimal n) ≡ suc (10 - length (decimal n)) = omega arith in
    rw e refl

pub length_field_rest : (n : ℕ) → length (field_rest n) ≡ 10
length_field_rest n =
    let h : length (decimal n) ≤ 10 + 0 = length_decimal 10 n [] in
    length-append (replicate (10 - length (decimal n)) 32) (decimal n) ∙ rw (length-replicate {0} {A = ℕ} (10 - length (decimal n)) 32) (omega arith)

pub field_columns : (n : ℕ) → n ≤ most_number → columns spaces (32 ∷ field_rest n) ≡ digits n
unfolding columns column
field_columns n m = spaces_columns (10 - length (decimal n)) (decimal n) ∙ decimal_columns 9 n [] (omega arith) m

-- a field that is printed is read as its number
pub field_read : (n : ℕ) (rest : List ℕ) → n ≤ most_number → number (field_text n ++ rest) ≡ n
field_read n rest m =
    let l : List ℕ = 32 ∷ field_rest n in
    let e : length l ≡ 11 = ap suc (length_field_rest n) in
    let t : take columns_of_field (l ++ rest) ≡ l = ap (λ (k : ℕ). take k (l ++ rest)) (sym e) ∙ take-append_seam l rest in
    ap (λ (t : List ℕ). number (t ++ rest)) (field_space n)
    ∙ number_columns (l ++ rest) (omega (arith, length-append l rest, e))
    ∙ ap (λ (t : List ℕ). number_in (columns spaces t)) t
    ∙ ap number_in (field_columns n m)

-- ---- a row
row_by_read : (f : ℕ) (ns l rest : List ℕ) → length l < f → 0 < length ns + length l → Each (λ n. n ≤ most_number) l → row_by f ns (fields_text l ++ rest) ≡ row (ns ++ l) rest
unfolding row_by fields_text
row_by_read zero ns l rest h k b = absurd (omega arith)
row_by_read (suc f) [] [] rest h k b = absurd (omega arith)
row_by_read (suc f) (m ∷ ns) [] rest h k b = ap (λ (l : List ℕ). row (m ∷ l) rest) (sym (append-nil ns))
row_by_read (suc f) ns (n ∷ l) rest h k b =
    let more : List ℕ = fields_text l ++ rest in
    let t : List ℕ = field_rest n ++ more in
    let e : (field_text n ++ fields_text l) ++ rest ≡ 32 ∷ t = append_assoc (field_text n) (fields_text l) rest ∙ ap (λ (x : List ℕ). x ++ more) (field_space n) in
    let v : number (32 ∷ t) ≡ n = ap (λ (x : List ℕ). number (x ++ more)) (sym (field_space n)) ∙ field_read n more b.0 in
    let w : leb 10 (length t) ≡ true = le-leb 10 (length t) (omega (arith, length-append (field_rest n) more, length_field_rest n)) in
    let g : drop 10 t ≡ more = ap (λ (i : ℕ). drop i t) (sym (length_field_rest n)) ∙ drop-append_seam (field_rest n) more in
    rw (e, v, w, le-leb n most_number b.0, g) (row_by_read f (ns ++ (n ∷ [])) l rest (omega arith) (omega (arith, length-append ns (n ∷ []))) b.1 ∙ ap (λ (x : List ℕ). row x rest) (append_assoc ns (n ∷ []) l))

pub length_fields : (l : List ℕ) → length l < length (fields_text l)
unfolding fields_text
length_fields [] = omega arith
length_fields (n ∷ l) = omega (arith, length-append (field_text n) (fields_text l), ap length (field_space n), length_fields l)

-- a row that is printed is read back, and what follows it is left
pub row_printed : (n : ℕ) (ns rest : List ℕ) → Each (λ k. k ≤ most_number) (n ∷ ns) → row_of (fields_text (n ∷ ns) ++ rest) ≡ row (n ∷ ns) rest
unfolding row_of
row_printed n ns rest b =
    let t = fields_text (n ∷ ns) in
    row_by_read (length (t ++ rest)) [] (n ∷ ns) rest (omega (arith, length-append t rest, length_fields (n ∷ ns))) (omega arith) b
