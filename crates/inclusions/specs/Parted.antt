-- The conjuncts of a hard antecedent in scratch, and an answer of the normal form beside its rule's.
use Rattle.std.specs.Prelude.{◌≡◌, List, [], ◌∷◌, ◌++◌, ℕ, ◌+◌, ◌*◌, ◌<◌, ◌≤◌, get_or}
use Prim.{Unit}
use Rattle.words.specs.Words.{words}
use Rattle.ir.specs.Scratch.{keys_at, stack_at, hands_at}
use Rattle.ir.specs.declared.counters.Counters.{Counters}
use Rattle.ir.specs.Answer.{Answer}
use Rattle.ir.specs.Answer as Answers
use Rattle.rules.specs.Base.{Res, ok, refused, return, each, ◌>>=◌}
use Rattle.rules.specs.Pool.{mk_and, mk_or, members, most_members}
use Rattle.rules.specs.Normalize.{St, N, in_pool, nnf_complement}
use Rattle.rules.specs.State.{Out}
use Rattle.rules.specs.Axioms as Rules
use Rattle.rules.specs.Invariants.{Each, Grown}
use Rattle.pool.specs.Layout.{pool_of, run}
use Rattle.pool.specs.Answers.{after}
use Rattle.rebuilding.specs.States.{state_of, told}
use Rattle.tables.specs.Good.{Good, Alike}
use Rattle.waiting.specs.Limits.{Behind}
use Rattle.leaves.specs.Reading.{Reading}
use Rattle.antecedents.specs.States.{varied}
use Rattle.inclusions.specs.Parts.{Parts, Found, Refused}

-- the lists' first words, and the bytes of scratch that both need
abbrev pub soft_at : ℕ
soft_at = hands_at

abbrev pub hard_at : ℕ
hard_at = stack_at

abbrev pub in_parts_bytes : ℕ
in_parts_bytes = 4 * (hands_at + most_members)

-- ---- partition
-- the code's answer, with scratch's words at exit, and the rule's
pub data Parted : Type 0 where
  found : Counters → List ℕ → List ℕ → Parted
  stopped : ℕ → Parted

abbrev pub parted_after : Parts → List ℕ → Parted
parted_after (Found k soft hard) w = found k (run w soft_at soft) (run w hard_at hard)
parted_after (Refused e) w = stopped e

abbrev pub parted_of : Counters → Res Out Rules.Parts → Parted
parted_of k (ok p s) = found (varied k s) p.soft p.hard
parted_of k (refused e) = stopped e

-- the conjuncts of concept c of w are concepts; where one is soft, all are below c, and the hard ones have room on the stack; the
-- limits that wait are as they were
pub record Sorted (k : Counters) (c : ℕ) (w w' : List ℕ) (l : Counters) (soft hard : ℕ) : Type 0 where
  pub good : Good l
  pub alike : Alike k l
  pub soft_in : Each (λ d. d < k.concepts) (run w' soft_at soft)
  pub few : soft ≤ most_members
  pub hard_in : 1 ≤ soft → Each (λ d. d < c) (run w' hard_at hard)
  pub room : 1 ≤ soft → hard + members (pool_of w c) ≤ most_members
  pub behind : Behind w w'

abbrev pub PartsIn : Counters → ℕ → (w w' : List ℕ) → Parts → Type 0
PartsIn k c w w' (Found l soft hard) = Sorted k c w w' l soft hard
PartsIn k c w w' (Refused e) = Unit {0}

-- ---- the normal form's rules
-- the heads of absorbParts, and softAnd, as such
abbrev pub head_alone : ℕ → ℕ → N ℕ
head_alone sub sup = nnf_complement sub >>= (λ negated. in_pool (mk_or (negated ∷ sup ∷ [])))

abbrev pub head_over : List ℕ → ℕ → N ℕ
head_over hard sup = each nnf_complement hard >>= (λ negated. in_pool (mk_or (negated ++ (sup ∷ []))))

abbrev pub soft_and_of : List ℕ → N ℕ
soft_and_of [] = in_pool (mk_and [])
soft_and_of (a ∷ []) = return a
soft_and_of (a ∷ b ∷ l) = in_pool (mk_and (a ∷ b ∷ l))

-- a concept of a pool that has grown from that of s
pub record Interned (s s' : List ℕ) (k k' : Counters) (i : ℕ) : Type 0 where
  pub reading : Reading s' k'
  pub good : Good k'
  pub inside : i < k'.concepts
  pub grown : Grown (pool_of (words s) k.concepts) (pool_of (words s') k'.concepts)

abbrev pub InternedAfter : (s s' : List ℕ) → Counters → Answer → Type 0
InternedAfter s s' k (Answers.Done k' i) = Interned s s' k k' i
InternedAfter s s' k (Answers.Refused e) = Unit {0}

-- a call did what the rule does, from scratch's bytes s to s'
pub record Normalised (rule : N ℕ) (k : Counters) (s s' : List ℕ) (r : Answer) : Type 0 where
  pub equal : after r (words s') ≡ told k (rule (state_of k (words s)))
  pub limit : (i : ℕ) (t : St) → rule (state_of k (words s)) ≡ ok i t → t.limit ≡ k.limit
  pub interned : InternedAfter s s' k r
  pub before : (j : ℕ) → keys_at ≤ j → j < stack_at → get_or (words s') j 0 ≡ get_or (words s) j 0
  pub behind : (j : ℕ) → hands_at ≤ j → get_or (words s') j 0 ≡ get_or (words s) j 0
