-- A list of sets: its numbers stand from word `at` on, and the set of number m is set `first + step * m`.
use Rattle.std.specs.Prelude.{◌≡◌, Bool, not, ◌&&◌, ◌||◌, List, ℕ, ◌+◌, ◌*◌, ◌-◌, ◌<◌, ◌≤◌, length, get_or, eqb}
use Rattle.words.specs.Words.{words}
use Rattle.ir.specs.Scratch.{lines_at}
use Rattle.rules.specs.Base.{all}
use Rattle.rules.specs.Axioms.{later_pairs}
use Rattle.rules.specs.Run.{scratch_bytes}
use Rattle.rules.specs.Semantics.{same_truth}
use Rattle.pool.specs.Layout.{run}
use Rattle.states.specs.Masks.{mask_of}
use Rattle.sets.specs.Kept.{set_at}
use Rattle.axiomtests.specs.declared.members.Sets.{Sets}

-- number j, the numbers from j on, all of them
abbrev pub number_of : List ℕ → Sets → ℕ → ℕ
number_of v l j = get_or v (l.at + j) 0

abbrev pub numbers_from : List ℕ → Sets → ℕ → List ℕ
numbers_from v l j = run v (l.at + j) (l.count - j)

abbrev pub numbers_of : List ℕ → Sets → List ℕ
numbers_of v l = run v l.at l.count

abbrev pub member_set : List ℕ → Sets → ℕ → ℕ
member_set v l j = set_at v (l.first + l.step * number_of v l j)

-- the set of number m has the elements x below n for which f m x
abbrev pub Members : ℕ → (ℕ → ℕ → Bool) → List ℕ → Sets → Type 0
Members n f v l = (j : ℕ) → j < l.count → member_set v l j ≡ mask_of n (f (number_of v l j))

-- what the code asks of the bytes of scratch
pub record SetsIn (scratch : List ℕ) (l : Sets) : Type 0 where
  pub within : l.at + l.count ≤ lines_at
  pub room : (j : ℕ) → j < l.count → 8 * (l.first + l.step * number_of (words scratch) l j) + 8 ≤ scratch_bytes
  pub space : scratch_bytes ≤ length scratch

-- ---- what is asked of two members at x: unlike, or both; equal numbers are asked of if `always`
abbrev pub unlike_at : (ℕ → ℕ → Bool) → List ℕ → ℕ → Bool
unlike_at f l x = not (all (λ q. same_truth (f q.0 x) (f q.1 x)) (later_pairs l))

abbrev pub clash_at : Bool → (ℕ → ℕ → Bool) → (a b x : ℕ) → Bool
clash_at always f a b x = (always || not (eqb a b)) && (f a x && f b x)

abbrev pub clashes_at : Bool → (ℕ → ℕ → Bool) → List ℕ → ℕ → Bool
clashes_at always f l x = not (all (λ q. not (clash_at always f q.0 q.1 x)) (later_pairs l))

-- which two numbers clash, by what a test of them answers
abbrev pub Clashing : (ℕ → ℕ → Bool → Type 0) → Bool → Type 0
Clashing test always = (a b : ℕ) (r : Bool) → test a b r → r ≡ always || not (eqb a b)
