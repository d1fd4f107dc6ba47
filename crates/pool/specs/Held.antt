-- A pool of n concepts and m list members in the words of scratch.
use Rattle.std.specs.Prelude.{◌≡◌, List, ℕ, suc, ◌+◌, ◌*◌, ◌<◌, ◌≤◌, length, get_or, Option as CodeOption, Some, None}
use Rattle.std.proofs.Math.Option.{Option, none, some}
use Rattle.words.specs.Words.{words}
use Rattle.ir.specs.declared.counters.Counters.{Counters}
use Rattle.rules.specs.Pool.{most_concepts, most_members, find, members}
use Rattle.rules.specs.Deck.{parts_of}
use Rattle.rules.specs.Invariants.{Each}
use Rattle.pool.specs.declared.record.Record.{Record}
use Rattle.pool.specs.Layout.{pool_words, pool_bytes, heads_at, field, count_of, record_at, concept_over, concept_at, pool_of, plain, starts_at}
use Rattle.pool.specs.Index.{hash_at, last}

-- Record c: unused words are 0, a list's run starts where the members before it end, its parts are earlier concepts, and no
-- earlier concept equals it.
pub record Recorded (w : List ℕ) (c : ℕ) : Type 0 where
  pub words : record_at w c ≡ starts_at (members (pool_of w c)) (plain (concept_at w c))
  pub used : field w c 4 ≡ members (pool_of w (suc c))
  pub link : field w c 5 ≡ last (hash_at w) c (hash_at w c)
  pub below : Each (λ d. d < c) (parts_of (concept_at w c))
  pub new : find (concept_at w c) (pool_of w c) ≡ none

pub record Held (w : List ℕ) (n m : ℕ) : Type 0 where
  pub room : pool_words ≤ length w
  pub few : n ≤ most_concepts
  pub space : m ≤ most_members
  pub count : m ≡ members (pool_of w n)
  pub records : (c : ℕ) → c < n → Recorded w c
  pub heads : (h : ℕ) → h < 2048 → get_or w (heads_at + h) 0 ≡ last (hash_at w) n h

-- ---- what the code asks of scratch's bytes s
-- a pool with the counters' sizes
pub record Ready (s : List ℕ) (k : Counters) : Type 0 where
  pub room : pool_bytes ≤ length s
  pub held : Held (words s) k.concepts k.members

-- the record of a concept, whose list stands from word i on
pub record Asked (s : List ℕ) (x : Record) (i : ℕ) : Type 0 where
  pub plain : plain (concept_over (words s) i x) ≡ x
  pub within : 4 * (i + count_of x) ≤ length s

-- the code's option as the rules'
abbrev pub found_of : CodeOption ℕ → Option ℕ
found_of (Some c) = some c
found_of None = none

-- a record's link and a hash's head as words: 1 + a record, or 0
abbrev pub link_word : CodeOption ℕ → ℕ
link_word None = 0
link_word (Some c) = suc c
