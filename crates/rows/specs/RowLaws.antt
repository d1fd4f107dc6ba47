-- Laws of a line's text, and of texts that are written one behind the other. Assumes nothing.
use Rattle.std.specs.Prelude.{◌≡◌, List, [], ◌∷◌, ◌++◌, length, get_or, set, take, drop, replicate}
use Rattle.std.proofs.Math.Path.{refl}
use Rattle.std.proofs.Common.{sym, ap, ap₂, subst, ◌∙◌, append_assoc, append-nil, add-one, length-append, length-drop, take-suc, length-take-le, lt-ltb, le-ltb}
use Prim.Native.Nat.{ℕ, zero, suc, ◌+◌, ◌*◌, ◌-◌, ◌/◌, ◌%◌, ◌<◌, ◌≤◌, ◌^◌}
use native.Mathlib.Omega.{arith}
use Rattle.std.proofs.lemmas.List.{length-replicate}
use Rattle.std.proofs.lemmas.List.Edits.{sets}
use Rattle.std.proofs.Math.Seq.{length-sets}
use Rattle.words.specs.Runs.{sets_append, sets_cons}
use Rattle.rules.specs.Lister.{decimal_by, decimal, field_text, fields_text}
use Rattle.rules.specs.PrintLaws.{length_decimal}
use Rattle.rows.specs.Rows.{columns_text, Put, texts_of, texts_left}

pub line_text : (l : List ℕ) → fields_text l ≡ columns_text l ++ (10 ∷ [])
unfolding fields_text columns_text
line_text [] = refl
line_text (n ∷ l) = ap (λ (t : List ℕ). field_text n ++ t) (line_text l) ∙ sym (append_assoc (field_text n) (columns_text l) (10 ∷ []))

pub columns_append : (l m : List ℕ) → columns_text (l ++ m) ≡ columns_text l ++ columns_text m
unfolding columns_text
columns_append [] m = refl
columns_append (n ∷ l) m = ap (λ (t : List ℕ). field_text n ++ t) (columns_append l m) ∙ sym (append_assoc (field_text n) (columns_text l) (columns_text m))

-- ---- a text behind another
module _ {A : Type 0} where
  set_twice : (l : List A) (i : ℕ) (x y : A) → set (set l i x) i y ≡ set l i y
  set_twice [] i x y = refl
  set_twice (z ∷ l) zero x y = refl
  set_twice (z ∷ l) (suc i) x y = ap (λ (t : List A). z ∷ t) (set_twice l i x y)

  -- one of them is written again
  pub set_within : (xs ys l : List A) (i : ℕ) (x y : A) → set (sets l i (xs ++ (x ∷ ys))) (i + length xs) y ≡ sets l i (xs ++ (y ∷ ys))
  set_within [] ys l i x y = let e : i + 0 ≡ i = omega arith in rw e (sets_cons ys (set l i x) i (suc i) y (omega arith) ∙ ap (λ (t : List A). sets t (suc i) ys) (set_twice l i x y))
  set_within (v ∷ xs) ys l i x y = let e : i + suc (length xs) ≡ suc i + length xs = omega arith in rw e (set_within xs ys (set l i v) (suc i) x y)

  -- all of them are
  pub sets_over : (xs ys l : List A) (i : ℕ) → length xs ≤ length ys → sets (sets l i xs) i ys ≡ sets l i ys
  sets_over [] ys l i h = refl
  sets_over (x ∷ xs) [] l i h = absurd (omega arith)
  sets_over (x ∷ xs) (y ∷ ys) l i h =
      ap (λ (t : List A). sets t (suc i) ys) (sets_cons xs (set l i x) i (suc i) y (omega arith) ∙ ap (λ (t : List A). sets t (suc i) xs) (set_twice l i x y))
      ∙ sets_over xs ys (set l i y) (suc i) (omega arith)

-- ---- digits
-- 10 ^ j
abbrev pub tens : ℕ → ℕ
tens zero = 1
tens (suc j) = 10 * tens j

abbrev pub spaces : ℕ → List ℕ
spaces n = replicate n 32

spaces_more : (j : ℕ) → spaces (suc j) ≡ spaces j ++ (32 ∷ [])
spaces_more zero = refl
spaces_more (suc j) = ap (λ (t : List ℕ). 32 ∷ t) (spaces_more j)

length_spaces : (j : ℕ) → length (spaces j) ≡ j
length_spaces j = length-replicate {0} {A = ℕ} j 32

-- the number n, whose rest before the digits ds is still to be written in j columns and the first
pub record Digits (n rest j : ℕ) (ds : List ℕ) : Type 0 where
  pub columns : suc j + length ds ≡ 11
  pub some : 1 ≤ j
  pub small : rest < tens j
  pub digits : decimal n ≡ decimal_by j rest ds

pub digits_none : (n : ℕ) → n < 2 ^ 32 → Digits n n 10 []
digits_none n h = record { columns = refl; some = omega arith; small = omega arith; digits = refl }

digit_more : (rest j : ℕ) (ds : List ℕ) → 9 < rest → decimal_by (suc j) rest ds ≡ decimal_by j (rest / 10) ((48 + rest % 10) ∷ ds)
unfolding decimal_by
digit_more rest j ds h = rw (le-ltb rest 10 (omega arith)) refl

digit_last : (rest j : ℕ) (ds : List ℕ) → rest < 10 → decimal_by (suc j) rest ds ≡ (48 + rest) ∷ ds
unfolding decimal_by
digit_last rest j ds h = rw (lt-ltb rest 10 h) refl

more : (n rest j : ℕ) (ds : List ℕ) → Digits n rest (suc j) ds → 9 < rest → Digits n (rest / 10) j ((48 + rest % 10) ∷ ds)
more n rest zero ds d h = absurd (omega (arith, d.small))
more n rest (suc j) ds d h = record {
  columns = omega (arith, d.columns);
  some = omega arith;
  small = omega (arith, d.small);
  digits = d.digits ∙ digit_more rest (suc j) ds h;
}

pub digits_more : (n rest j : ℕ) (ds : List ℕ) → Digits n rest j ds → 9 < rest → Digits n (rest / 10) (j - 1) ((48 + rest % 10) ∷ ds)
digits_more n rest zero ds d h = absurd (omega (arith, d.some))
digits_more n rest (suc j) ds d h = let e : suc j - 1 ≡ j = omega arith in rw e (more n rest j ds d h)

pub digits_end : (n rest j : ℕ) (ds : List ℕ) → Digits n rest j ds → rest < 10 → field_text n ≡ spaces j ++ ((48 + rest) ∷ ds)
digits_end n rest zero ds d h = absurd (omega (arith, d.some))
digits_end n rest (suc j) ds d h =
    let e : decimal n ≡ (48 + rest) ∷ ds = d.digits ∙ digit_last rest j ds h in
    let k : 11 - suc (length ds) ≡ suc j = omega (arith, d.columns) in
    rw (e, k) refl

-- a digit takes the place of the last space
digit_put : (out : List ℕ) (at j a : ℕ) (ds : List ℕ) → set (sets out at (spaces (suc j) ++ ds)) (at + j) a ≡ sets out at (spaces j ++ (a ∷ ds))
digit_put out at j a ds =
    let e : spaces (suc j) ++ ds ≡ spaces j ++ (32 ∷ ds) = ap (λ (t : List ℕ). t ++ ds) (spaces_more j) ∙ append_assoc (spaces j) (32 ∷ []) ds in
    let f : at + length (spaces j) ≡ at + j = omega (arith, length_spaces j) in
    ap (λ (t : List ℕ). set (sets out at t) (at + j) a) e ∙ ap (λ (k : ℕ). set (sets out at (spaces j ++ (32 ∷ ds))) k a) (sym f) ∙ set_within (spaces j) ds out at 32 a

-- the bytes while digits are written, from s on
pub record Written (s : List ℕ) (at n rest j : ℕ) (out : List ℕ) : Type 0 where
  pub ds : List ℕ
  pub number : Digits n rest j ds
  pub bytes : out ≡ sets s at (spaces (suc j) ++ ds)

pub written_none : (s : List ℕ) (at n : ℕ) (out : List ℕ) → n < 2 ^ 32 → out ≡ sets s at (spaces 11) → Written out at n n 10 out
written_none s at n out h e = record {
  ds = [];
  number = digits_none n h;
  bytes = e ∙ sym (sets_over (spaces 11) (spaces 11) s at (omega arith)) ∙ ap (λ (t : List ℕ). sets t at (spaces 11)) (sym e);
}

pub written_more : (s : List ℕ) (at n rest j : ℕ) (out : List ℕ) → Written s at n rest j out → 9 < rest
    → Written s at n (rest / 10) (j - 1) (set out (at + j) (48 + rest % 10))
written_more s at n rest zero out w h = absurd (omega (arith, w.number.some))
written_more s at n rest (suc j) out w h =
    let e : suc j - 1 ≡ j = omega arith in
    record {
      ds = (48 + rest % 10) ∷ w.ds;
      number = digits_more n rest (suc j) w.ds w.number h;
      bytes = ap (λ (t : List ℕ). set t (at + suc j) (48 + rest % 10)) w.bytes ∙ digit_put s at (suc j) (48 + rest % 10) w.ds ∙ rw e refl;
    }

-- lengths
pub length_field : (n : ℕ) → length (field_text n) ≡ 11
length_field n =
    let h : length (decimal n) ≤ 10 + 0 = length_decimal 10 n [] in
    length-append (spaces (11 - length (decimal n))) (decimal n) ∙ rw (length_spaces (11 - length (decimal n))) (omega arith)

pub written_end : (s : List ℕ) (at n rest j : ℕ) (out out' : List ℕ) → out ≡ sets s at (spaces 11) → Written out at n rest j out' → rest < 10
    → set out' (at + j) (48 + rest) ≡ sets s at (field_text n)
written_end s at n rest j out out' e w h =
    ap (λ (t : List ℕ). set t (at + j) (48 + rest)) w.bytes ∙ digit_put out at j (48 + rest) w.ds
    ∙ ap (λ (t : List ℕ). sets out at t) (sym (digits_end n rest j w.ds w.number h))
    ∙ ap (λ (t : List ℕ). sets t at (field_text n)) e
    ∙ sets_over (spaces 11) (field_text n) s at (omega (arith, length_field n))

pub length_columns : (l : List ℕ) → length (columns_text l) ≡ 11 * length l
unfolding columns_text
length_columns [] = refl
length_columns (n ∷ l) = length-append (field_text n) (columns_text l) ∙ rw (length_field n, length_columns l) (omega arith)

-- a run of words, in its columns
pub words_long : (w : List ℕ) (start count : ℕ) → start + count ≤ length w → length (columns_text (take count (drop start w))) ≡ 11 * count
words_long w start count h =
    let r : count ≤ length (drop start w) = rw (length-drop start w) (omega arith) in
    length_columns (take count (drop start w)) ∙ ap (λ (k : ℕ). 11 * k) (length-take-le count (drop start w) r)

columns_one : (n : ℕ) → columns_text (n ∷ []) ≡ field_text n
unfolding columns_text
columns_one n = append-nil (field_text n)

columns_next : (l : List ℕ) (i : ℕ) → i < length l → columns_text (take (i + 1) l) ≡ columns_text (take i l) ++ field_text (get_or l i 0)
columns_next l i h = rw (add-one, take-suc l i 0 h, columns_append (take i l) (get_or l i 0 ∷ []), columns_one (get_or l i 0)) refl

-- ---- texts that are put one behind the other
pub put_then : {s s' s'' t u : List ℕ} {at p q : ℕ} → Put s at t s' p → Put s' p u s'' q → Put s at (t ++ u) s'' q
put_then {s} {s'} {s''} {t} {u} {at} {p} {q} h k = record {
  bytes = k.bytes ∙ ap₂ (λ (b : List ℕ) (i : ℕ). sets b i u) h.bytes h.end ∙ sets_append t u s at;
  end = omega (arith, h.end, k.end, length-append t u);
}

-- the first i numbers of a list, and one more
pub put_none : (s : List ℕ) (at : ℕ) (l : List ℕ) → Put s at (columns_text (take 0 l)) s at
unfolding columns_text
put_none s at l = record { bytes = refl; end = omega arith }

pub put_next : {s s' s'' : List ℕ} {at p q : ℕ} (l : List ℕ) (i : ℕ) → i < length l → Put s at (columns_text (take i l)) s' p → Put s' p (field_text (get_or l i 0)) s'' q → Put s at (columns_text (take (i + 1) l)) s'' q
put_next {s} {s'} {s''} {at} {p} {q} l i b h k = subst (λ (t : List ℕ). Put s at t s'' q) (sym (columns_next l i b)) (put_then h k)

pub put_columns_end : {s s' : List ℕ} {at p : ℕ} (l : List ℕ) (i : ℕ) → i ≤ length l → Put s at (columns_text (take i l)) s' p → p ≡ at + 11 * i
put_columns_end l i b h = omega (arith, h.end, length_columns (take i l), length-take-le i l b)

pub put_line : {s s' s'' : List ℕ} {at p q : ℕ} (l : List ℕ) → Put s at (columns_text l) s' p → Put s' p (10 ∷ []) s'' q → Put s at (fields_text l) s'' q
put_line {s} {s'} {s''} {at} {p} {q} l h k = subst (λ (t : List ℕ). Put s at t s'' q) (sym (line_text l)) (put_then h k)

pub put_field_first : {s s' s'' : List ℕ} {at p q : ℕ} (n : ℕ) (l : List ℕ) → Put s at (field_text n) s' p → Put s' p (fields_text l) s'' q → Put s at (fields_text (n ∷ l)) s'' q
unfolding fields_text
put_field_first n l h k = put_then h k

pub length_line : (l : List ℕ) → length (fields_text l) ≡ 11 * length l + 1
length_line l = ap length (line_text l) ∙ length-append (columns_text l) (10 ∷ []) ∙ rw (length_columns l) refl

-- ---- a text that is put piece by piece
-- of the text that is to be put into s, the rest is still to be put into s', from p on
pub record Left (s : List ℕ) (at : ℕ) (text : List ℕ) (s' : List ℕ) (p : ℕ) (rest : List ℕ) : Type 0 where
  pub bytes : sets s' p rest ≡ sets s at text
  pub end : p + length rest ≡ at + length text
  pub long : length s' ≡ length s

pub left_all : (s : List ℕ) (at : ℕ) (text : List ℕ) → Left s at text s at text
left_all s at text = record { bytes = refl; end = refl; long = refl }

module _ (s : List ℕ) (at : ℕ) (text : List ℕ) (s' : List ℕ) (p : ℕ) where
  pub left_more : (t rest s'' : List ℕ) (q : ℕ) → Left s at text s' p (t ++ rest) → Put s' p t s'' q → Left s at text s'' q rest
  left_more t rest s'' q l h = record {
    bytes = ap₂ (λ (b : List ℕ) (k : ℕ). sets b k rest) h.bytes h.end ∙ sets_append t rest s' p ∙ l.bytes;
    end = omega (arith, h.end, l.end, length-append t rest);
    long = ap length h.bytes ∙ length-sets s' p t ∙ l.long;
  }

  -- a piece fits where the whole does
  pub left_fits : (t rest : List ℕ) → Left s at text s' p (t ++ rest) → at + length text ≤ length s → p + length t ≤ length s'
  left_fits t rest l h = omega (arith, l.end, l.long, length-append t rest)

  pub left_none : Left s at text s' p [] → Put s at text s' p
  left_none l = record { bytes = l.bytes; end = omega (arith, l.end) }

-- ---- the texts of numbers, one after another
module _ (f : ℕ → List ℕ) (i n : ℕ) where
  texts_next : i < n → texts_left f i n ≡ f i ++ texts_left f (i + 1) n
  unfolding texts_of
  texts_next h = let e : n - i ≡ suc (n - (i + 1)) = omega arith in rw e refl

  texts_none : n ≤ i → texts_left f i n ≡ []
  unfolding texts_of
  texts_none h = let e : n - i ≡ 0 = omega arith in rw e refl

  module _ (s : List ℕ) (at : ℕ) (text out : List ℕ) (p : ℕ) where
    pub text_fits : i < n → Left s at text out p (texts_left f i n) → at + length text ≤ length s → p + length (f i) ≤ length out
    text_fits h l = left_fits s at text out p (f i) (texts_left f (i + 1) n) (subst (Left s at text out p) (texts_next h) l)

    pub text_more : (out' : List ℕ) (q : ℕ) → i < n → Left s at text out p (texts_left f i n) → Put out p (f i) out' q → Left s at text out' q (texts_left f (i + 1) n)
    text_more out' q h l = left_more s at text out p (f i) (texts_left f (i + 1) n) out' q (subst (Left s at text out p) (texts_next h) l)

    pub texts_end : n ≤ i → Left s at text out p (texts_left f i n) → Put s at text out p
    texts_end h l = left_none s at text out p (subst (Left s at text out p) (texts_none h) l)

-- n of them from i on, that is those below m
pub texts_all : (f : ℕ → List ℕ) (i n m : ℕ) (s : List ℕ) (at : ℕ) → m ≡ i + n → Left s at (texts_of f i n) s at (texts_left f i m)
texts_all f i n m s at e = let d : m - i ≡ n = omega arith in rw d (left_all s at (texts_of f i n))
