-- The text of a deck: bytes to rows of numbers. A number is decimal, right-justified in 11 columns behind at least one
-- space, without leading zeros, at most 4294967295; a line feed ends each line.
use Rattle.std.specs.Prelude.{Bool, true, false, ◌&&◌, List, [], ◌∷◌, ◌++◌, ℕ, zero, suc, ◌+◌, ◌*◌, ◌-◌, length, get_or, take, drop, eqb, leb}
use Rattle.ir.specs.Pick.{pick}

abbrev pub most_number : ℕ
most_number = 4294967295

abbrev pub columns_of_field : ℕ
columns_of_field = 11

abbrev pub is_digit : ℕ → Bool
is_digit b = leb 48 b && leb b 57

-- what the columns so far are: spaces alone, a number, or no field
pub data Columns : Type 0 where
  spaces : Columns
  digits : ℕ → Columns
  broken : Columns

abbrev pub capped : ℕ → Columns
capped v = pick (leb v most_number) (digits v) broken

-- one column more; a number that begins with 0 has no further digit
unfoldable pub column : Columns → ℕ → Columns
column spaces b = pick (eqb b 32) spaces (pick (is_digit b) (digits (b - 48)) broken)
column (digits v) b = pick (eqb v 0) broken (pick (is_digit b) (capped (10 * v + (b - 48))) broken)
column broken b = broken

unfoldable pub columns : Columns → List ℕ → Columns
columns x [] = x
columns x (b ∷ s) = columns (column x b) s

-- 4294967296 where there is no number
abbrev pub number_in : Columns → ℕ
number_in spaces = 4294967296
number_in (digits v) = v
number_in broken = 4294967296

-- the number in the first 11 bytes, the first of them a space
unfoldable pub number : List ℕ → ℕ
number s = pick (eqb (get_or s 0 0) 32) (number_in (columns spaces (take columns_of_field s))) 4294967296

-- a line's numbers and the bytes after its line feed
pub data Row : Type 0 where
  row : List ℕ → List ℕ → Row
  broken_row : Row

-- a line without a number breaks the layout
abbrev pub row_ended : List ℕ → List ℕ → Row
row_ended [] s = broken_row
row_ended (n ∷ ns) s = row (n ∷ ns) s

abbrev pub row_field : (ℕ → Row) → ℕ → Bool → Row
row_field rest n true = rest n
row_field rest n false = broken_row

abbrev pub row_byte : (ℕ → Row) → List ℕ → List ℕ → ℕ → Bool → Row
row_byte rest ns s b true = row_ended ns s
row_byte rest ns s b false = row_field rest (number (b ∷ s)) (leb 10 (length s) && leb (number (b ∷ s)) most_number)

-- the row that begins with the numbers ns and goes on with these bytes; it ends by its line feed alone
unfoldable pub row_by : ℕ → List ℕ → List ℕ → Row
row_by zero ns s = broken_row
row_by (suc f) ns [] = broken_row
row_by (suc f) ns (b ∷ s) = row_byte (λ n. row_by f (ns ++ (n ∷ [])) (drop 10 s)) ns s b (eqb b 10)

unfoldable pub row_of : List ℕ → Row
row_of s = row_by (length s) [] s
