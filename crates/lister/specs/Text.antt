-- The listing's last line, and the length of the longest listing.
use Rattle.std.specs.Prelude.{List, [], ◌∷◌, ◌++◌, ℕ}
use Rattle.rules.specs.Stats.{stats_numbers}
use Rattle.statistics.specs.Counted.{stats_of}
use Rattle.statistics.specs.declared.ClauseStats.{ClauseStats}

-- the reply's numbers
abbrev pub numbers_line : ClauseStats → ℕ → ℕ → List ℕ
numbers_line s fresh_ids visits = 43 ∷ stats_numbers (stats_of s) ++ (fresh_ids ∷ visits ∷ [])

-- the bytes of 1,024 clauses, 45 each, and of 2,048 atoms, 78 each
abbrev pub most_rows : ℕ
most_rows = 205824

-- and of line 43
abbrev pub most_text : ℕ
most_text = 205946
