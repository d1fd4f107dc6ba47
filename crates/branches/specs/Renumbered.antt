-- A body renumbered from its root, in the words of scratch: the variables met stand from word m on, those to keep from k on,
-- and the renumbered body from r on.
use Rattle.std.specs.Prelude.{◌≡◌, List, ◌++◌, map, ℕ, ◌+◌, ◌*◌, ◌≤◌, length, get_or, take, drop}
use Rattle.ir.specs.Records.{atom_at}
use Rattle.ir.specs.declared.atom.Atom.{Atom}
use Rattle.ir.specs.declared.atom.Atom.TheVariants.{Class, Exists, AtMost, AtLeast, Equal, Role as RoleAtom}
use Rattle.std.specs.Prelude.{Some}
use Rattle.rules.specs.Branches.{place_of, met_with, renumber, renumber_from}
use Rattle.branches.specs.Wide.{AtomsAre}
use Rattle.branches.specs.Memo.{packed, Tame}

-- n words from m on
abbrev pub run : List ℕ → ℕ → ℕ → List ℕ
run w m n = take n (drop m w)

-- one variable is met: nothing but the variables met is written
pub record Met (m k : ℕ) (w : List ℕ) (n v : ℕ) (w' : List ℕ) (n' : ℕ) : Type 0 where
  pub vars : run w' m n' ≡ met_with (run w m n) v
  pub few : n' ≤ n + 1
  pub long : length w' ≡ length w
  pub before : take m w' ≡ take m w
  pub behind : drop k w' ≡ drop k w

-- ---- an atom
-- the variables met, and the atom of their places
abbrev pub met_after : List ℕ → Atom → List ℕ
met_after met (Class k v) = met_with met v
met_after met (RoleAtom r u v) = met_with (met_with met u) v
met_after met (Exists _ _ _) = met
met_after met (AtMost _ _ _ _) = met
met_after met (AtLeast _ _ _ _) = met
met_after met (Equal _ _) = met

abbrev pub placed : List ℕ → Atom → Atom
placed met (Class k v) = Class k (place_of met v)
placed met (RoleAtom r u v) = RoleAtom r (place_of met u) (place_of (met_with met u) v)
placed met (Exists r k v) = Exists r k v
placed met (AtMost r q n v) = AtMost r q n v
placed met (AtLeast r q n v) = AtLeast r q n v
placed met (Equal u v) = Equal u v

-- the words before word i of the renumbered body are as they were
pub record Put (m k r : ℕ) (w : List ℕ) (n i : ℕ) (a : Atom) (w' : List ℕ) (n' : ℕ) : Type 0 where
  pub vars : run w' m n' ≡ met_after (run w m n) a
  pub few : n' ≤ n + 2
  pub word : get_or w' (r + i) 0 ≡ packed (placed (run w m n) a)
  pub long : length w' ≡ length w
  pub before : take m w' ≡ take m w
  pub keep : run w' k 512 ≡ run w k 512
  pub done : run w' r i ≡ run w r i

pub record TameAt (w : List ℕ) (at : ℕ) : Type 0 where
  pub atom : Atom
  pub is : atom_at w at ≡ Some atom
  pub tame : Tame atom

-- ---- the body
-- the named branches, the bodies under work, the tree and the variables to keep are as they were
pub record OnlyRenumbered (m k : ℕ) (w w' : List ℕ) : Type 0 where
  pub long : length w' ≡ length w
  pub before : take m w' ≡ take m w
  pub keep : run w' k 512 ≡ run w k 512

-- before atom i: n variables are met, the words made and the atoms left make the rule's body
pub record Renumbering (m k r : ℕ) (w : List ℕ) (base count root : ℕ) (w' : List ℕ) (n i : ℕ) : Type 0 where
  pub here : i ≤ count
  pub few : n ≤ 1 + 2 * i
  pub only : OnlyRenumbered m k w w'
  pub left : (l : List Atom) → AtomsAre w base count l → map packed (renumber l root) ≡ run w' r i ++ map packed (renumber_from (run w' m n) (drop i l))
