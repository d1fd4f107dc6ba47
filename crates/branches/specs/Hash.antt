-- The hash of a list of words, below 32,768: a product modulo the prime 2 ^ 32 - 5 for each word, and the highest fifteen bits.
use Rattle.std.specs.Prelude.{List, [], ◌∷◌, ℕ, ◌+◌, ◌*◌, ◌/◌, ◌%◌}

unfoldable pub hash_by : ℕ → List ℕ → ℕ
hash_by h [] = h
hash_by h (x ∷ l) = hash_by (1937098319 * (h + x) % 4294967291) l

abbrev pub hash_of : List ℕ → ℕ
hash_of l = hash_by 0 l / 131072
