-- An index by a hash, over the words of a table: for each hash the last number that has it, and for each number the one before it
-- with its hash (one more than the number; 0: none). H gives a number's hash.
use Rattle.std.specs.Prelude.{◌≡◌, List, [], ◌∷◌, ℕ, zero, suc, ◌+◌, ◌*◌, ◌/◌, ◌%◌, ◌<◌, get_or, eqb}
use Rattle.ir.specs.Pick.{pick}

-- the hash of a row, below 1024: a product modulo 2 ^ 32 for each number, and the highest ten bits
unfoldable pub hash_by : ℕ → List ℕ → ℕ
hash_by h [] = h
hash_by h (x ∷ l) = hash_by (1640531527 * (h + x) % 4294967296) l

abbrev pub hash_of : List ℕ → ℕ
hash_of r = hash_by 0 r / 4194304

-- one more than the last number below n whose hash is h, or 0
unfoldable pub last : (ℕ → ℕ) → ℕ → ℕ → ℕ
last H zero h = 0
last H (suc n) h = pick (eqb (H n) h) (suc n) (last H n h)

-- the index of the numbers below n: its heads from word `head` on, its links from word `link` on
pub record Indexed (head link : ℕ) (H : ℕ → ℕ) (w : List ℕ) (n : ℕ) : Type 0 where
  pub heads : (h : ℕ) → h < 1024 → get_or w (head + h) 0 ≡ last H n h
  pub links : (i : ℕ) → i < n → get_or w (link + i) 0 ≡ last H i (H i)
