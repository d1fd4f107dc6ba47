-- A clause's tables in scratch: for each variable the elements that break every atom that has no other, and for each pair of
-- variables and each element for the first of them, those for the second that break every atom of the two.
use Rattle.std.specs.Prelude.{◌≡◌, Bool, true, false, not, ◌&&◌, ◌||◌, List, [], ◌∷◌, ◌++◌, ℕ, zero, suc, ◌+◌, ◌*◌, ◌<◌, ◌≤◌, length, get_or, eqb}
use Rattle.words.specs.Words.{words}
use Rattle.ir.specs.Atoms.{atom_vars}
use Rattle.ir.specs.declared.atom.Atom.{Atom}
use Rattle.rules.specs.Base.{all}
use Rattle.rules.specs.State.{Clause}
use Rattle.rules.specs.Invariants.{Each}
use Rattle.rules.specs.Run.{scratch_bytes}
use Rattle.rules.specs.Semantics.{Interpretation, implies, chosen, atom_holds, clause_vars}
use Rattle.meaning.specs.Choices.{InVars}
use Rattle.states.specs.Masks.{mask_of}
use Rattle.states.specs.LiteralLaws.{Distinct}
use Rattle.sets.specs.Kept.{set_at}
use Rattle.sets.specs.Places.{vars_at, pairs_at}
use Rattle.sets.specs.Laid.{KeptTo}
use Rattle.tables.specs.Tabled.{Run}
use Rattle.clausetests.specs.declared.fitting.Side.{Side}
use Rattle.clausetests.specs.declared.fitting.Side.TheVariants.{Body, Head}
use Rattle.clausetests.specs.declared.listed.Vars.{Vars}
use Rattle.clausetests.specs.Vars.{VarsAs}
use Rattle.clausetests.specs.Given.{Given, NamesRoles}

-- ---- where they stand
-- the pairs of k places
abbrev pub pairs : ℕ → ℕ
pairs zero = 0
pairs (suc zero) = 0
pairs (suc (suc zero)) = 1
pairs (suc (suc (suc zero))) = 3
pairs (suc (suc (suc (suc k)))) = 6

-- the sets of the places i and j, i before j
abbrev pub pair_at : ℕ → ℕ → ℕ
pair_at i j = pairs_at + 64 * (i + pairs j)

-- ---- what they say: `one` of a place and an element, `two` of two places and an element for each
abbrev pub Ones : ℕ → ℕ → (ℕ → ℕ → Bool) → List ℕ → Type 0
Ones n k one v = (j : ℕ) → j < k → set_at v (vars_at + j) ≡ mask_of n (one j)

abbrev pub Twos : ℕ → ℕ → (ℕ → ℕ → ℕ → ℕ → Bool) → List ℕ → Type 0
Twos n k two v = (i j e : ℕ) → i < j → j < k → e < n → set_at v (pair_at i j + e) ≡ mask_of n (two i j e)

-- of n elements and k places
pub record Tables (n k : ℕ) (one : ℕ → ℕ → Bool) (two : ℕ → ℕ → ℕ → ℕ → Bool) (v : List ℕ) : Type 0 where
  pub ones : Ones n k one v
  pub twos : Twos n k two v

-- ---- what the atoms of a body say, or of a head (`head`), where an atom must fail
abbrev pub is_head : Side → Bool
is_head Body = false
is_head Head = true

abbrev pub turned : Bool → Bool → Bool
turned true b = not b
turned false b = b

-- u is the one variable of the list; s and t are the two
abbrev pub only_in : ℕ → List ℕ → Bool
only_in u l = all (λ x. eqb x u) l

abbrev pub both_in : ℕ → ℕ → List ℕ → Bool
both_in s t [] = false
both_in s t (x ∷ []) = false
both_in s t (x ∷ y ∷ l) = (eqb x s && eqb y t) || (eqb x t && eqb y s)

abbrev pub atom_one : Interpretation → List ℕ → Bool → Atom → ℕ → ℕ → Bool
atom_one I vs head a j x = implies (only_in (get_or vs j 0) (atom_vars a)) (turned head (atom_holds I (λ _. x) a))

abbrev pub atom_two : Interpretation → List ℕ → Bool → Atom → ℕ → ℕ → ℕ → ℕ → Bool
atom_two I vs head a i j e x = implies (both_in (get_or vs i 0) (get_or vs j 0) (atom_vars a)) (turned head (atom_holds I (chosen (λ _. e) (get_or vs j 0) x) a))

-- narrowed by one atom, by some
abbrev pub one_with : Interpretation → List ℕ → Bool → Atom → (ℕ → ℕ → Bool) → ℕ → ℕ → Bool
one_with I vs head a one j x = one j x && atom_one I vs head a j x

abbrev pub two_with : Interpretation → List ℕ → Bool → Atom → (ℕ → ℕ → ℕ → ℕ → Bool) → ℕ → ℕ → ℕ → ℕ → Bool
two_with I vs head a two i j e x = two i j e x && atom_two I vs head a i j e x

abbrev pub ones_with : Interpretation → List ℕ → Bool → List Atom → (ℕ → ℕ → Bool) → ℕ → ℕ → Bool
ones_with I vs head l one j x = one j x && all (λ a. atom_one I vs head a j x) l

abbrev pub twos_with : Interpretation → List ℕ → Bool → List Atom → (ℕ → ℕ → ℕ → ℕ → Bool) → ℕ → ℕ → ℕ → ℕ → Bool
twos_with I vs head l two i j e x = two i j e x && all (λ a. atom_two I vs head a i j e x) l

-- a clause's
abbrev pub clause_one : Interpretation → Clause → ℕ → ℕ → Bool
clause_one I c j x = all (λ a. atom_one I (clause_vars c) false a j x) c.body && all (λ a. atom_one I (clause_vars c) true a j x) c.head

abbrev pub clause_two : Interpretation → Clause → ℕ → ℕ → ℕ → ℕ → Bool
clause_two I c i j e x = all (λ a. atom_two I (clause_vars c) false a i j e x) c.body && all (λ a. atom_two I (clause_vars c) true a i j e x) c.head

-- ---- the other words stay
-- only words from a on and below b have changed
pub record Changed (a b : ℕ) (v v' : List ℕ) : Type 0 where
  pub before : KeptTo a v v'
  pub behind : (i : ℕ) → b ≤ i → get_or v' i 0 ≡ get_or v i 0

-- ---- atoms of a clause with the variables vs, in a state that is laid out
pub record Meant (I : Interpretation) (roles : ℕ) (vs : List ℕ) (size : ℕ) (l : List Atom) (v : Vars) (text w s : List ℕ) : Type 0 where
  pub given : Given I roles size text w s
  pub names : Each (NamesRoles roles) l
  pub are : VarsAs vs v
  pub few : v.n ≤ 4
  pub among : Each (InVars vs) l
  pub distinct : Distinct vs

pub record MeantThere (size : ℕ) (l : List Atom) (v : Vars) (text store scratch : List ℕ) : Type 0 where
  pub meant : Interpretation
  pub roles : ℕ
  pub vars : List ℕ
  pub so : Meant meant roles vars size l v text (words store) (words scratch)
  pub space : scratch_bytes ≤ length scratch

-- the atoms of these bytes
pub record RunMeant (size : ℕ) (run : List ℕ) (v : Vars) (text store scratch : List ℕ) : Type 0 where
  pub list : List Atom
  pub are : Run run list
  pub there : MeantThere size list v text store scratch

-- a clause of this body and this head
pub record ClauseMeant (size : ℕ) (body head : List ℕ) (v : Vars) (text store scratch : List ℕ) : Type 0 where
  pub clause : Clause
  pub body_run : Run body clause.body
  pub head_run : Run head clause.head
  pub there : MeantThere size (clause.body ++ clause.head) v text store scratch
