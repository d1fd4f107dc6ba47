-- An answer of the code beside a rule's.
use Rattle.std.specs.Prelude.{◌≡◌, List, [], ◌∷◌, ◌++◌, ℕ, ◌+◌, ◌<◌, length, drop}
use Rattle.ir.specs.Counts.{counters}
use Rattle.ir.specs.declared.counters.Counters.{Counters}
use Rattle.ir.specs.Answer.{Answer}
use Rattle.ir.specs.Answer.{Done, Refused}
use Rattle.rules.specs.Base.{Res, ok, refused, M}
use Rattle.rules.specs.Concept.{Concept}
use Rattle.rules.specs.Pool.{Pool, members}
use Rattle.pool.specs.Layout.{pool_words, pool_of}
use Rattle.pool.specs.Held.{Held}

-- the counters and the pool
pub data Drawn : Type 0 where
  drawn : Counters → Pool → Drawn

-- the counters with the sizes of a pool
abbrev pub sized : Counters → Pool → Counters
sized k p = counters k.visits k.limit (length p) (members p) k.next_var k.next_class k.clauses k.atoms k.deferrals k.line k.nominal_base k.options

-- the code's answer over scratch's words at exit, and a rule's
abbrev pub after : Answer → List ℕ → Res Drawn ℕ
after (Done k i) w = ok i (drawn k (pool_of w k.concepts))
after (Refused e) w = refused e

abbrev pub shown : Counters → Res Pool ℕ → Res Drawn ℕ
shown k (ok i p) = ok i (drawn (sized k p) p)
shown k (refused e) = refused e

-- the pool is held again, and the id is one of it
abbrev pub HeldAfter : Answer → List ℕ → Type 0
HeldAfter (Done k i) w = Held w k.concepts k.members × (i < k.concepts)
HeldAfter (Refused e) w = Unit {0}

-- the code did what the rule does
pub record Interned (k : Counters) (rule : M Pool ℕ) (w w' : List ℕ) (r : Answer) : Type 0 where
  pub equal : after r w' ≡ shown k (rule (pool_of w k.concepts))
  pub held : HeldAfter r w'

-- one concept more, of so many list members
pub record Added (k : Counters) (count : ℕ) (e : Concept) (w w' : List ℕ) : Type 0 where
  pub pool : pool_of w' (k.concepts + 1) ≡ pool_of w k.concepts ++ (e ∷ [])
  pub held : Held w' (k.concepts + 1) (k.members + count)
  pub frame : drop pool_words w' ≡ drop pool_words w
