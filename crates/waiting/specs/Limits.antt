-- The limits that wait, in the words w of scratch. Of the rules' list the first `most_limits` stand there: no run comes to
-- another one, since each that is settled takes a concept of the pool.
use Rattle.std.specs.Prelude.{◌≡◌, List, ℕ, ◌+◌, ◌*◌, ◌≤◌, get_or, set, take, ltb}
use Rattle.ir.specs.Pick.{pick}
use Rattle.ir.specs.Scratch.{limits_at}
use Rattle.rules.specs.State.{Limit}
use Rattle.pool.specs.Layout.{tab}

abbrev pub most_limits : ℕ
most_limits = 2048

-- limit i
abbrev pub limit_in : List ℕ → ℕ → Limit
limit_in w i = record { filler = get_or w (limits_at + 1 + 2 * i) 0; name = get_or w (limits_at + 2 + 2 * i) 0 }

abbrev pub limits_in : List ℕ → List Limit
limits_in w = tab (limit_in w) 0 (get_or w limits_at 0)

-- one more, where there is room for it
abbrev pub written : List ℕ → ℕ → ℕ → ℕ → List ℕ
written w n filler name = set (set (set w (limits_at + 1 + 2 * n) filler) (limits_at + 1 + 2 * n + 1) name) limits_at (n + 1)

abbrev pub appended : List ℕ → ℕ → ℕ → List ℕ
appended w filler name = pick (ltb (get_or w limits_at 0) most_limits) (written w (get_or w limits_at 0) filler name) w

-- the limits l wait, and the first of them stand in w
pub record Waits (w : List ℕ) (l : List Limit) : Type 0 where
  pub are : limits_in w ≡ take most_limits l

-- the words behind the other regions are as they were
pub record Behind (w w' : List ℕ) : Type 0 where
  pub same : (j : ℕ) → limits_at ≤ j → get_or w' j 0 ≡ get_or w j 0
