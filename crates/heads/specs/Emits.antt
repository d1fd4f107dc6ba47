-- What the cycle asks of scratch: a pool to read, and room for what is in hand.
use Rattle.std.specs.Prelude.{List, ℕ, ◌+◌, ◌*◌, ◌<◌, ◌≤◌, length}
use Rattle.words.specs.Words.{words}
use Rattle.ir.specs.Scratch.{hands_at, limits_at, limits_words}
use Rattle.ir.specs.declared.counters.Counters.{Counters}
use Rattle.pool.specs.Layout.{field}
use Rattle.tables.specs.Good.{Good}
use Rattle.leaves.specs.Reading.{Reading}

-- the stack's need of a concept, in atoms: two for each smaller id, and every list's members once
abbrev pub room_of : List ℕ → ℕ → ℕ
room_of w c = 2 * c + field w c 4

-- a body of n atoms in hand from base on, below the room for concept c, and the limits that wait above
pub record Room (s : List ℕ) (base n need : ℕ) : Type 0 where
  pub above : hands_at ≤ 6 * base
  pub short : n ≤ 256
  pub fits : 24 * (base + n + need + 2) ≤ length s
  pub below : 6 * (base + n + need + 2) ≤ limits_at
  pub queue : 4 * (limits_at + limits_words) ≤ length s

pub record Emitting (s : List ℕ) (k : Counters) (base n c : ℕ) : Type 0 where
  pub reading : Reading s k
  pub good : Good k
  pub held : c < k.concepts
  pub room : Room s base n (room_of (words s) c)
