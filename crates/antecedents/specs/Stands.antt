-- What the code asks of scratch's bytes s, and what it promises of the numbers.
use Rattle.std.specs.Prelude.{◌≡◌, Bool, List, ℕ, ◌+◌, ◌<◌, ◌≤◌, length, get_or}
use Rattle.words.specs.Words.{words}
use Rattle.ir.specs.declared.counters.Counters.{Counters}
use Rattle.ir.specs.Encoded.{Encoded}
use Rattle.rules.specs.Pool.{most_members}
use Rattle.pool.specs.Layout.{pool_bytes, members_at, field, run, pool_of}
use Rattle.pool.specs.Held.{Held}
use Rattle.antecedents.specs.Counts.{count_all, count}

-- c is a concept of a pool in s
pub record Stands (s : List ℕ) (c : ℕ) : Type 0 where
  pub concepts : ℕ
  pub members : ℕ
  pub room : pool_bytes ≤ length s
  pub held : Held (words s) concepts members
  pub inside : c < concepts

-- the list of c: its members are smaller ids
pub record Listed (w : List ℕ) (c start many : ℕ) : Type 0 where
  pub within : start + many ≤ most_members
  pub smaller : (j : ℕ) → j < many → get_or w (members_at + start + j) 0 < c

-- the list of c, by its record: where its members stand, and how many they are
abbrev pub HasList : List ℕ → ℕ → Type 0
HasList w c = Listed w c (field w c 3) (field w c 2)

abbrev pub list_in : List ℕ → ℕ → List ℕ
list_in w c = run w (members_at + field w c 3) (field w c 2)

-- r: the numbers of concept c, under every bound above it
abbrev pub Counts : List ℕ → Counters → ℕ → Encoded → Type 0
Counts w k c r = (n f : ℕ) → c < n → c < f → r ≡ count (pool_of w n) f k c

-- r: the numbers of the list of c, after those of acc
abbrev pub CountsAll : List ℕ → Bool → ℕ → ℕ → ℕ → Encoded → Encoded → Type 0
CountsAll w b c start many acc r = (n f : ℕ) → c < n → c ≤ f → r ≡ count_all (count (pool_of w n) f) b (run w (members_at + start) many) acc

-- and of its own
abbrev pub CountsList : List ℕ → Bool → ℕ → Encoded → Encoded → Type 0
CountsList w b c acc r = CountsAll w b c (field w c 3) (field w c 2) acc r
