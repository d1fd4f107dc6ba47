-- The tree as it grows, in the words of scratch and the flags of the atoms.
use Rattle.std.specs.Prelude.{◌≡◌, Bool, true, false, Option, Some, None, List, [], ◌∷◌, ℕ, ◌+◌, ◌<◌, ◌≤◌, length, get_or, take, drop, set, eqb}
use Rattle.std.proofs.Math.Option.{none}
use Rattle.ir.specs.Pick.{pick}
use Rattle.ir.specs.declared.atom.Atom.{Atom}
use Rattle.rules.specs.Base.{contains}
use Rattle.rules.specs.Branches.{Tree, scan_atom, scanned, tree_of, below, top_of, parent_of}
use Rattle.branches.specs.Layout.{bound_at, tops_at, met_at}
use Rattle.branches.specs.Wide.{AtomsAre}
use Rattle.branches.specs.AtomsLaws.{WordsAre}

abbrev pub one : Bool → ℕ
one true = 1
one false = 0

-- how many flags are set
unfoldable pub trues : List Bool → ℕ
trues [] = 0
trues (p ∷ l) = one p + trues l

-- the n bound variables
abbrev pub bound_of : List ℕ → ℕ → List ℕ
bound_of w n = take n (drop bound_at w)

-- one more, v, below the variable at place i, unless it is bound
abbrev pub top_for : List ℕ → ℕ → ℕ → ℕ
top_for w i v = pick (eqb i 0) v (get_or w (tops_at + i) 0)

abbrev pub bind_of : List ℕ → ℕ → ℕ → ℕ → Bool → List ℕ
bind_of w n i v b = pick b w (set (set w (bound_at + n) v) (tops_at + n) (top_for w i v))

-- only the tree's words were written
pub record Kept (w w' : List ℕ) : Type 0 where
  pub front : take bound_at w' ≡ take bound_at w
  pub back : drop met_at w' ≡ drop met_at w

-- the n bound variables are the rule's, the root first; the tops of all but the root; what is not bound has no parent
pub record Growing (w : List ℕ) (root n : ℕ) (vs : List ℕ) (parents : List (ℕ × ℕ)) : Type 0 where
  pub long : n ≡ length vs
  pub filled : 1 ≤ n
  pub vars : bound_of w n ≡ vs
  pub first : get_or vs 0 0 ≡ root
  pub tops : (i : ℕ) → 1 ≤ i → i < n → top_of parents root (get_or vs i 0) ≡ below (get_or w (tops_at + i) 0)
  pub alone : (v : ℕ) → contains vs v ≡ false → parent_of parents v ≡ none

-- a tree in the middle of a round: the flags of the atoms before j are new
pub record Midway (w : List ℕ) (flags : List Bool) (root j n : ℕ) (more : Bool) (t : Tree) : Type 0 where
  pub growing : Growing w root n t.bound t.parents
  pub placed : t.placed ≡ take j flags
  pub progressed : t.progressed ≡ more

-- atom j at word `at`; n and more become n' and more'
pub record Visited (w : List ℕ) (flags : List Bool) (at j n : ℕ) (more : Bool) (n' : ℕ) (more' : Bool) (w' : List ℕ) (flags' : List Bool) : Type 0 where
  pub rule : (root : ℕ) (t : Tree) (a : Atom) → WordsAre w at a → Midway w flags root j n more t → Midway w' flags' root (j + 1) n' more' (scan_atom t a (get_or flags j false))
  pub rest : drop (j + 1) flags' ≡ drop (j + 1) flags
  pub kept : Kept w w'
  pub gained : ℕ
  pub fewer : n' ≤ n + gained
  pub moved : one more' ≤ one more + gained
  pub counted : (m : ℕ) → j < m → trues (take m flags') ≡ trues (take m flags) + gained

-- how many are bound then, if the atom is placed
abbrev pub VisitedBy : List ℕ → List Bool → (at j n : ℕ) → List ℕ → List Bool → Option ℕ → Type 0
VisitedBy w flags at j n w' flags' (Some m) = (more : Bool) → Visited w flags at j n more m true w' flags'
VisitedBy w flags at j n w' flags' None = (more : Bool) → Visited w flags at j n more n more w' flags'

-- a round
pub record Rounded (w : List ℕ) (flags : List Bool) (base count n n' : ℕ) (more : Bool) (w' : List ℕ) (flags' : List Bool) : Type 0 where
  pub rule : (root : ℕ) (t : Tree) (l : List Atom) → AtomsAre w base count l → Growing w root n t.bound t.parents → t.placed ≡ take count flags → Midway w' flags' root count n' more (scanned l t)
  pub kept : Kept w w'
  pub few : n' ≤ 1 + trues (take count flags')
  pub up : trues (take count flags) + one more ≤ trues (take count flags')

-- all rounds, from the root alone
pub record Grown (w : List ℕ) (base count n : ℕ) (w' : List ℕ) (flags' : List Bool) : Type 0 where
  pub rule : (root : ℕ) (l : List Atom) → AtomsAre w base count l → Growing w root 1 (root ∷ []) []
      → Growing w' root n (tree_of l root).bound (tree_of l root).parents × ((tree_of l root).placed ≡ take count flags')
  pub kept : Kept w w'
  pub few : n ≤ 257
