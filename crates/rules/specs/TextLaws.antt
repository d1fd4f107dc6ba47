-- Laws of the text: what a row that was read is, and that a field without a space in front is no number. Assumes nothing.
use Rattle.std.specs.Prelude.{◌≡◌, refl, Bool, true, false, ◌&&◌, List, [], ◌∷◌, ◌++◌, ℕ, zero, suc, ◌+◌, ◌*◌, ◌-◌, ◌<◌, ◌≤◌, eqb, leb, length, get_or, take, drop}
use Rattle.std.proofs.Common.{sym, subst, arith, leb-true, ne_eqb, length-append, length-drop, length-take-le}
use Rattle.std.proofs.lemmas.Bool.{eqb-false, and_parts}
use Rattle.ir.specs.Pick.{pick}
use Rattle.rules.specs.Text.{most_number, columns_of_field, is_digit, Columns, spaces, digits, broken, capped, column, columns, number_in, number, Row, row, broken_row, row_ended, row_field, row_byte, row_by, row_of}
use Rattle.rules.specs.Invariants.{Each}
use Rattle.rules.specs.EachLaws.{each_append}

-- ---- tests and lists
pub by_test : {P : Type 0} (b : Bool) → (b ≡ true → P) → (b ≡ false → P) → P
by_test true y n = y refl
by_test false y n = n refl

-- P of both choices is P of the one taken
pub pick_by : {A : Type 0} (P : A → Type 0) (t : Bool) (a b : A) → (t ≡ true → P a) → (t ≡ false → P b) → P (pick t a b)
pick_by P true a b f g = f refl
pick_by P false a b f g = g refl

pub each_get_d : {A : Type 0} (P : A → Type 0) (l : List A) (i : ℕ) (d : A) → Each P l → P d → P (get_or l i d)
each_get_d P [] i d h k = k
each_get_d P (x ∷ l) zero d h k = h.0
each_get_d P (x ∷ l) (suc i) d h k = each_get_d P l i d h.1 k

-- ---- the lines of a text: one, and one more for each line feed that bytes follow
unfoldable pub lines_of : List ℕ → ℕ
lines_of [] = 1
lines_of (b ∷ []) = 1
lines_of (b ∷ c ∷ s) = pick (eqb b 10) 1 0 + lines_of (c ∷ s)

pub lines_tail : (b : ℕ) (s : List ℕ) → lines_of s ≤ lines_of (b ∷ s)
unfolding lines_of
lines_tail b [] = omega arith
lines_tail b (c ∷ s) = omega arith

pub lines_drop : (n : ℕ) (s : List ℕ) → lines_of (drop n s) ≤ lines_of s
lines_drop zero s = omega arith
lines_drop (suc n) [] = omega arith
lines_drop (suc n) (b ∷ s) = omega (arith, lines_drop n s, lines_tail b s)

pub lines_feed : (b : ℕ) (s : List ℕ) → eqb b 10 ≡ true → 0 < length s → lines_of s + 1 ≤ lines_of (b ∷ s)
unfolding lines_of
lines_feed b [] e h = absurd (omega arith)
lines_feed b (c ∷ s) e h = rw e (omega arith)

-- ---- rows
-- a row and the bytes after it, as they are read from n bytes of l lines
pub record RowRead (n l : ℕ) (r rest : List ℕ) : Type 0 where
  pub numbers : Each (λ k. k ≤ most_number) r
  pub some : 0 < length r
  pub bytes : length rest + 11 * length r + 1 ≡ n
  pub lines : 0 < length rest → lines_of rest + 1 ≤ l

abbrev pub Reads : (n l : ℕ) → Row → Type 0
Reads n l (row r rest) = RowRead n l r rest
Reads n l broken_row = Unit {0}

reads_ended : (ns s : List ℕ) (l : ℕ) → Each (λ k. k ≤ most_number) ns → (0 < length s → lines_of s + 1 ≤ l) → Reads (length s + 11 * length ns + 1) l (row_ended ns s)
reads_ended [] s l N L = tt
reads_ended (n ∷ ns) s l N L = record { numbers = N; some = omega arith; bytes = refl; lines = L }

-- a field more, if `rest` reads what follows it
module _ (rest : ℕ → Row) (n l b : ℕ) (ns s : List ℕ) (go : (k : ℕ) → k ≤ most_number → 10 ≤ length s → Reads n l (rest k)) where
  reads_field : (t : Bool) → (leb 10 (length s) && leb (number (b ∷ s)) most_number) ≡ t → Reads n l (row_field rest (number (b ∷ s)) t)
  reads_field true h =
      let g = and_parts (leb 10 (length s)) (leb (number (b ∷ s)) most_number) h in
      go (number (b ∷ s)) (leb-true (number (b ∷ s)) most_number g.1) (leb-true 10 (length s) g.0)
  reads_field false h = tt

  reads_byte : Each (λ k. k ≤ most_number) ns → length s + 11 * length ns + 1 ≡ n → lines_of (b ∷ s) ≤ l → (t : Bool) → eqb b 10 ≡ t → Reads n l (row_byte rest ns s b t)
  reads_byte N e L true h = rw e at (reads_ended ns s l N (λ g. omega (arith, lines_feed b s h g)))
  reads_byte N e L false h = reads_field (leb 10 (length s) && leb (number (b ∷ s)) most_number) refl

reads_by : (f : ℕ) (ns s : List ℕ) (n l : ℕ) → Each (λ k. k ≤ most_number) ns → length s + 11 * length ns ≡ n → lines_of s ≤ l → Reads n l (row_by f ns s)
unfolding row_by
reads_by zero ns s n l N e L = tt
reads_by (suc f) ns [] n l N e L = tt
reads_by (suc f) ns (b ∷ s) n l N e L =
    reads_byte (λ k. row_by f (ns ++ (k ∷ [])) (drop 10 s)) n l b ns s
    (λ k h g. reads_by f (ns ++ (k ∷ [])) (drop 10 s) n l (each_append (λ i. i ≤ most_number) ns (k ∷ []) N (h, tt)) (simp (length-append, length-drop) (omega arith)) (omega (arith, lines_drop 10 s, lines_tail b s)))
    N (omega arith) L (eqb b 10) refl

-- what rowOf answers
pub row_reads : (s : List ℕ) → Reads (length s) (lines_of s) (row_of s)
unfolding row_of
row_reads s = reads_by (length s) [] s (length s) (lines_of s) tt (omega arith) (omega arith)

module _ (s r rest : List ℕ) (h : row_of s ≡ row r rest) where
  pub row_read : RowRead (length s) (lines_of s) r rest
  row_read = subst (Reads (length s) (lines_of s)) h (row_reads s)

  -- each number is at most 4294967295, and there is one
  pub row_numbers : Each (λ k. k ≤ most_number) r × (0 < length r)
  row_numbers = (row_read.numbers, row_read.some)

  -- 12 bytes or more are gone
  pub row_shorter : length rest + 12 ≤ length s
  row_shorter = omega (arith, row_read.some, row_read.bytes)

-- ---- numbers
-- no field any more, or a number from m on
abbrev From : ℕ → Columns → Type 0
From m spaces = ⊥
From m (digits v) = (m ≤ v) × (v ≤ most_number)
From m broken = Unit {0}

from_capped : (m v : ℕ) → m ≤ v → From m (capped v)
from_capped m v h = pick_by (From m) (leb v most_number) (digits v) broken (λ e. (h, leb-true v most_number e)) (λ _. tt)

from_column : (m : ℕ) (x : Columns) (b : ℕ) → From m x → From (10 * m) (column x b)
unfolding column
from_column m spaces b h = absurd h
from_column m (digits v) b h =
    let w : ℕ = 10 * v + (b - 48) in
    pick_by (From (10 * m)) (eqb v 0) broken (pick (is_digit b) (capped w) broken) (λ _. tt)
    (λ _. pick_by (From (10 * m)) (is_digit b) (capped w) broken (λ _. from_capped (10 * m) w (omega arith)) (λ _. tt))
from_column m broken b h = tt

abbrev tenfold : ℕ → ℕ → ℕ
tenfold zero m = m
tenfold (suc n) m = tenfold n (10 * m)

from_columns : (m : ℕ) (x : Columns) (l : List ℕ) → From m x → From (tenfold (length l) m) (columns x l)
unfolding columns
from_columns m x [] h = h
from_columns m x (b ∷ l) h = from_columns (10 * m) (column x b) l (from_column m x b h)

from_none : (x : Columns) → From 10000000000 x → number_in x ≡ 4294967296
from_none spaces h = absurd h
from_none (digits v) h = omega arith
from_none broken h = refl

-- a first column that is no space, and the second: 10 or more
from_two : (b c : ℕ) → eqb b 32 ≡ false → From 10 (column (column spaces b) c)
unfolding column
from_two b c e = rw e (pick_by (λ x. From 10 (column x c)) (is_digit b) (digits (b - 48)) broken (λ h. one h) (λ _. tt))
  where
    one : is_digit b ≡ true → From 10 (column (digits (b - 48)) c)
    one h =
        let w : ℕ = 10 * (b - 48) + (c - 48) in
        pick_by (From 10) (eqb (b - 48) 0) broken (pick (is_digit c) (capped w) broken) (λ _. tt)
        (λ q. pick_by (From 10) (is_digit c) (capped w) broken (λ _. from_capped 10 w (omega (arith, eqb-false (b - 48) 0 q))) (λ _. tt))

-- 11 bytes that do not begin with a space are no number
pub number_no_space : (b : ℕ) (l : List ℕ) → length l ≡ 10 → (b ≡ 32 → ⊥) → number_in (columns spaces (b ∷ l)) ≡ 4294967296
unfolding columns
number_no_space b [] e h = absurd (omega arith)
number_no_space b (c ∷ l) e h =
    let x : Columns = column (column spaces b) c in
    let n : length l ≡ 9 = omega arith in
    from_none (columns x l) (subst (λ (i : ℕ). From (tenfold i 10) (columns x l)) n (from_columns 10 x l (from_two b c (ne_eqb b 32 h))))

-- so the first column needs no test of its own
pub number_columns : (s : List ℕ) → columns_of_field ≤ length s → number s ≡ number_in (columns spaces (take columns_of_field s))
unfolding number
number_columns [] h = absurd (omega arith)
number_columns (b ∷ s) h = pick_by (λ (n : ℕ). n ≡ number_in (columns spaces (take columns_of_field (b ∷ s)))) (eqb b 32) _ 4294967296 (λ _. refl) (λ e. sym (number_no_space b (take 10 s) (length-take-le 10 s (omega arith)) (eqb-false b 32 e)))

-- 4294967296 is the most that it answers
number_in_lem : (x : Columns) (b : ℕ) → number_in (column x b) ≤ 4294967296
unfolding column
number_in_lem spaces b =
    pick_by (λ x. number_in x ≤ 4294967296) (eqb b 32) spaces (pick (is_digit b) (digits (b - 48)) broken) (λ _. omega arith)
    (λ _. pick_by (λ x. number_in x ≤ 4294967296) (is_digit b) (digits (b - 48)) broken (λ h. omega (arith, leb-true b 57 (and_parts (leb 48 b) (leb b 57) h).1)) (λ _. omega arith))
number_in_lem (digits v) b =
    let w : ℕ = 10 * v + (b - 48) in
    pick_by (λ x. number_in x ≤ 4294967296) (eqb v 0) broken (pick (is_digit b) (capped w) broken) (λ _. omega arith)
    (λ _. pick_by (λ x. number_in x ≤ 4294967296) (is_digit b) (capped w) broken
    (λ _. pick_by (λ x. number_in x ≤ 4294967296) (leb w most_number) (digits w) broken (λ h. omega (arith, leb-true w most_number h)) (λ _. omega arith))
    (λ _. omega arith))
number_in_lem broken b = omega arith

numbers_in : (x : Columns) (l : List ℕ) → number_in x ≤ 4294967296 → number_in (columns x l) ≤ 4294967296
unfolding columns
numbers_in x [] h = h
numbers_in x (b ∷ l) h = numbers_in (column x b) l (number_in_lem x b)

pub number_most : (s : List ℕ) → number s ≤ 4294967296
unfolding number
number_most s =
    let n : ℕ = number_in (columns spaces (take columns_of_field s)) in
    pick_by (λ (i : ℕ). i ≤ 4294967296) (eqb (get_or s 0 0) 32) n 4294967296 (λ _. numbers_in spaces (take columns_of_field s) (omega arith)) (λ _. omega arith)
