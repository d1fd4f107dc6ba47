-- The tree below a root, in the words of scratch.
use Rattle.std.specs.Prelude.{◌≡◌, Bool, true, false, Option, Some, None, List, ℕ, ◌+◌, ◌<◌, ◌≤◌, length, get_or}
use Rattle.ir.specs.declared.atom.Atom.{Atom}
use Rattle.rules.specs.Base.{contains}
use Rattle.rules.specs.Branches.{Tree, tree_of, any_disconnected, below, unbound, top_of}
use Rattle.branches.specs.Layout.{bound_at, tops_at, met_at}

-- n bound variables, the root first, and for each but the root the child of the root whose subtree holds it
pub record Treed (w : List ℕ) (root n : ℕ) (t : Tree) : Type 0 where
  pub long : n ≡ length t.bound
  pub few : n ≤ 257
  pub vars : (i : ℕ) → i < n → get_or w (bound_at + i) 0 ≡ get_or t.bound i 0
  pub first : get_or t.bound 0 0 ≡ root
  pub tops : (i : ℕ) → 1 ≤ i → i < n → top_of t.parents root (get_or t.bound i 0) ≡ below (get_or w (tops_at + i) 0)
  pub others : (v : ℕ) → contains t.bound v ≡ false → top_of t.parents root v ≡ unbound

-- the code's answer: how many are bound; none where a role atom is disconnected from the root
abbrev pub TreeBy : List ℕ → ℕ → Tree → Bool → Option ℕ → Type 0
TreeBy w root t true None = Unit {0}
TreeBy w root t true (Some n) = ⊥
TreeBy w root t false None = ⊥
TreeBy w root t false (Some n) = Treed w root n t × (1 ≤ n)

abbrev pub TreeIs : List ℕ → ℕ → List Atom → Option ℕ → Type 0
TreeIs w root l r = TreeBy w root (tree_of l root) (any_disconnected l (tree_of l root).placed) r

-- for some tree
pub record TreeThere (w : List ℕ) (n : ℕ) : Type 0 where
  pub root : ℕ
  pub tree : Tree
  pub treed : Treed w root n tree

-- only the tree's words were written
pub record OnlyTree (w w' : List ℕ) : Type 0 where
  pub before : (j : ℕ) → j < bound_at → get_or w' j 0 ≡ get_or w j 0
  pub behind : (j : ℕ) → met_at ≤ j → get_or w' j 0 ≡ get_or w j 0
