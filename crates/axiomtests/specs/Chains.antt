-- A chain of roles: part j is the role whose code is word `at + step * j`.
use Rattle.std.specs.Prelude.{◌≡◌, false, not, ◌&&◌, List, ℕ, suc, ◌+◌, ◌*◌, ◌-◌, ◌<◌, ◌≤◌, length, get_or}
use Rattle.words.specs.Words.{words}
use Rattle.ir.specs.Roles.{role_of}
use Rattle.ir.specs.Scratch.{lines_at}
use Rattle.ir.specs.declared.role.Role.{Role}
use Rattle.rules.specs.Deck.{most_roles, most_listed}
use Rattle.rules.specs.Run.{scratch_bytes}
use Rattle.rules.specs.Semantics.{Interpretation, related}
use Rattle.pool.specs.Layout.{tab}
use Rattle.states.specs.State.{most_elements}
use Rattle.states.specs.Conditions.{rises}
use Rattle.states.specs.Masks.{mask_of}
use Rattle.states.specs.HoldsLaws.{onward}
use Rattle.states.specs.ChainLaws.{first_where}
use Rattle.sets.specs.Kept.{set_at}
use Rattle.sets.specs.Places.{left_at}
use Rattle.sets.specs.Laid.{Rows}
use Rattle.axiomtests.specs.declared.chains.Chain.{Chain}

abbrev pub part_code : List ℕ → Chain → ℕ → ℕ
part_code v c j = get_or v (c.at + c.step * j) 0

-- the last k parts, and all
abbrev pub last_parts : List ℕ → Chain → ℕ → List Role
last_parts v c k = tab (λ j. role_of (part_code v c j)) (c.parts - k) k

abbrev pub parts_of : List ℕ → Chain → List Role
parts_of v c = tab (λ j. role_of (part_code v c j)) 0 c.parts

-- the rows of a role code are those of its role
abbrev pub RowsOf : Interpretation → List ℕ → ℕ → Type 0
RowsOf I v code = Rows v code I.size (related I (role_of code))

pub record Chained (I : Interpretation) (v : List ℕ) (size : ℕ) (c : Chain) : Type 0 where
  pub sized : size ≡ I.size
  pub sup : RowsOf I v c.sup
  pub parts : (j : ℕ) → j < c.parts → RowsOf I v (part_code v c j)

-- from where the last k parts can still be broken, x being the first element
abbrev pub Left : Interpretation → List ℕ → Chain → ℕ → ℕ → Type 0
Left I v c x k = set_at v (left_at + k) ≡ mask_of I.size (λ y. not (onward I (role_of c.sup) x (last_parts v c k) y))

abbrev pub AllLeft : Interpretation → List ℕ → Chain → ℕ → Type 0
AllLeft I v c x = (k : ℕ) → k ≤ c.parts → Left I v c x k

-- the least element behind y from which the last k parts can still be broken
abbrev pub next_of : Interpretation → List ℕ → Chain → (x k y : ℕ) → ℕ
next_of I v c x k y = first_where (λ w. related I (role_of (part_code v c (c.parts - suc k))) y w && not (onward I (role_of c.sup) x (last_parts v c k) w)) (rises 0 I.size)

-- what the code asks of the bytes of scratch
pub record ChainIn (scratch : List ℕ) (size : ℕ) (c : Chain) : Type 0 where
  pub meant : Interpretation
  pub chained : Chained meant (words scratch) size c
  pub few : size ≤ most_elements
  pub short : c.parts ≤ most_listed
  pub code : c.sup < 2 * most_roles
  pub among : (j : ℕ) → j < c.parts → c.at + c.step * j < lines_at
  pub codes : (j : ℕ) → j < c.parts → part_code (words scratch) c j < 2 * most_roles
  pub space : scratch_bytes ≤ length scratch

-- the sets are there, and from element y, before the last k parts, the chain can be broken
pub record WalkIn (scratch : List ℕ) (size : ℕ) (c : Chain) (x k y : ℕ) : Type 0 where
  pub chain : ChainIn scratch size c
  pub left : AllLeft chain.meant (words scratch) c x
  pub among : k ≤ c.parts
  pub element : y < size
  pub breaks : onward chain.meant (role_of c.sup) x (last_parts (words scratch) c k) y ≡ false
