-- The two ends of the pool (refusal 11), which no deck of the tables reaches: computed at the last concept and list member that
-- are held, and at the first that are not.
use Rattle.std.specs.Prelude.{◌≡◌, refl, List, [], ◌∷◌, ℕ, zero, suc}
use Rattle.rules.specs.Base.{Res, ok, refused}
use Rattle.rules.specs.Concept.{And, Atomic}
use Rattle.rules.specs.Pool.{Pool, find, members, intern_raw}

-- what interning answers
pub data Answer : Type 0 where
  id number : ℕ → Answer

abbrev answer_of : Res Pool ℕ → Answer
answer_of (ok i p) = id i
answer_of (refused k) = number k

-- the first n classes, the last first
unfoldable classes : ℕ → Pool
classes zero = []
classes (suc n) = Atomic n ∷ classes n

-- n lists of 128 members each, and none two equal
unfoldable ones : ℕ → List ℕ
ones zero = []
ones (suc n) = 1 ∷ ones n

unfoldable lists : ℕ → Pool
lists zero = []
lists (suc n) = And (n ∷ ones 127) ∷ lists n

-- 2,048 concepts
last_concept : answer_of (intern_raw (Atomic 2047) (classes 2047)) ≡ id 2047
unfolding intern_raw find members classes
last_concept = refl

no_concept : answer_of (intern_raw (Atomic 2048) (classes 2048)) ≡ number 11
unfolding intern_raw find members classes
no_concept = refl

-- 16,384 list members: 127 lists and one of 128 more, or of 129
last_member : answer_of (intern_raw (And (127 ∷ ones 127)) (lists 127)) ≡ id 127
unfolding intern_raw find members ones lists
last_member = refl

no_member : answer_of (intern_raw (And (127 ∷ ones 128)) (lists 127)) ≡ number 11
unfolding intern_raw find members ones lists
no_member = refl

-- an equal record is found in a full pool
found : answer_of (intern_raw (Atomic 0) (classes 2048)) ≡ id 2047
unfolding intern_raw find members classes
found = refl
