-- The edge from a root to a child, and the variables to keep.
use Rattle.std.specs.Prelude.{◌≡◌, Bool, true, false, not, ◌&&◌, Option, Some, None, List, [], ◌∷◌, ◌++◌, ℕ, ◌+◌, ◌<◌, ◌≤◌, length, get_or, take, drop, eqb}
use Rattle.ir.specs.declared.atom.Atom.{Atom}
use Rattle.ir.specs.declared.atom.Atom.TheVariants.{Equal}
use Rattle.rules.specs.Base.{filter}
use Rattle.rules.specs.Branches.{is_edge, mentions}
use Rattle.branches.specs.Layout.{keep_at}

-- the first n words from keepAt on
pub record KeepIs (w : List ℕ) (n : ℕ) (kept : List ℕ) : Type 0 where
  pub long : n ≡ length kept
  pub few : n ≤ 512
  pub are : take n (drop keep_at w) ≡ kept

abbrev pub edges_of : ℕ → ℕ → List Atom → List Atom
edges_of root t l = filter (is_edge root t) l

abbrev pub inner_of : ℕ → ℕ → List Atom → List Atom
inner_of root t l = filter (λ a. not (is_edge root t a)) l

-- as splitGroup asks
abbrev pub splits : ℕ → ℕ → List Atom → Bool
splits root t l = eqb (length (edges_of root t l)) 1 && not (mentions (root ∷ []) (inner_of root t l))

abbrev pub any_atom : Atom
any_atom = Equal 0 0

-- atom e is the one edge, and nothing else mentions the root
pub record OneEdge (l : List Atom) (root t e : ℕ) : Type 0 where
  pub within : e < length l
  pub one : splits root t l ≡ true
  pub edge : edges_of root t l ≡ get_or l e any_atom ∷ []
  pub inner : inner_of root t l ≡ take e l ++ drop (e + 1) l

abbrev pub EdgeIs : List Atom → ℕ → ℕ → Option ℕ → Type 0
EdgeIs l root t (Some e) = OneEdge l root t e
EdgeIs l root t None = splits root t l ≡ false

-- atom e in front of the others
abbrev pub fronted : List Atom → ℕ → List Atom
fronted l e = get_or l e any_atom ∷ (take e l ++ drop (e + 1) l)
