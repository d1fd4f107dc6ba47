-- A child split and named, and the root's children one after the other: the code's answers beside the rule's.
use Rattle.std.specs.Prelude.{◌≡◌, Result, Ok, Err, Bool, true, false, List, [], ◌∷◌, ◌++◌, ℕ, ◌+◌, ◌*◌, ◌<◌, ◌≤◌, length, ltb}
use Rattle.std.proofs.Math.Option.{Option}
use Rattle.ir.specs.declared.atom.Atom.{Atom}
use Rattle.ir.specs.declared.refusal.Refusal.{Refusal}
use Rattle.ir.specs.declared.atom.Atom.TheVariants.{Class}
use Rattle.rules.specs.Base.{Res, ok, refused, ◌>>=◌, return}
use Rattle.rules.specs.Branches.{Groups, W, max_body_vars, body_var_count_from, split_group, name_group, name_groups, name_by}
use Rattle.rules.specs.Branches as Rules
use Rattle.rules.specs.Run.{flat}
use Rattle.rules.specs.Invariants.{Each}
use Rattle.tables.specs.TabledLaws.{At}
use Rattle.branches.specs.Layout.{body_at, copy_at}
use Rattle.branches.specs.Memo.{Tame, NamedHeld}
use Rattle.branches.specs.Edges.{edges_of, inner_of}
use Rattle.branches.specs.Grouped.{Arranged, all_of}
use Rattle.naming.specs.Names.{To, Full}
use Rattle.branches.specs.declared.memo.Naming.{Naming}
use Rattle.naming.specs.declared.name.Reached.{Reached}

-- ---- a child split one level down
unfoldable pub split_rule : ℕ → List Atom → ℕ → ℕ → W (List Atom)
split_rule f l root t = split_group (λ a b c. name_by f a b c) l (edges_of root t l) (inner_of root t l) root t (ltb max_body_vars (body_var_count_from l root))

abbrev pub SplitBy : (w : List ℕ) → (base count : ℕ) → Naming → Res Rules.Naming (List Atom) → Result (Naming × ℕ) Refusal → Type 0
SplitBy w base count s (ok b z) (Ok r) = To w base count b z s r.0 r.1
SplitBy w base count s (ok b z) (Err x) = Full x z
SplitBy w base count s (refused k) r = ⊥

-- ---- a child's name
unfoldable pub group_rule : ℕ → List Atom → ℕ → ℕ → W Atom
group_rule f l root t = name_group (λ a b c. name_by f a b c) root t l

pub record Called (w : List ℕ) (root : ℕ) (s : Naming) (a : Atom) (z : Rules.Naming) (m : Naming) (e : ℕ) : Type 0 where
  pub is : a ≡ Class e root
  pub held : NamedHeld w m z
  pub first : m.first ≡ s.first
  pub small : e < 2097152

abbrev pub CalledBy : (w : List ℕ) → (root : ℕ) → Naming → Res Rules.Naming Atom → Result (Naming × ℕ) Refusal → Type 0
CalledBy w root s (ok a z) (Ok r) = Called w root s a z r.0 r.1
CalledBy w root s (ok a z) (Err x) = Full x z
CalledBy w root s (refused k) r = ⊥

-- ---- one child: the atoms that it becomes, and whether one is named then
abbrev pub child_of : ℕ → ℕ → ℕ → List Atom → Bool → Bool → W (List Atom × Bool)
child_of f root t group any true = return (group, any)
child_of f root t group any false = group_rule f group root t >>= (λ a. return (a ∷ [], true))

-- before a child of c atoms: the result stands from record base to q, the child's atoms from p on, then the others'
pub record Standing (w : List ℕ) (base count q p c : ℕ) (result group rest : List Atom) (s : Naming) (z : Rules.Naming) : Type 0 where
  pub here : q ≡ base + length result
  pub many : c ≡ length group
  pub filled : 1 ≤ c
  pub below : q ≤ p
  pub all : p + c + length rest ≡ base + count
  pub low : body_at ≤ base
  pub high : base + count ≤ copy_at
  pub few : count ≤ 256
  pub done : At w (6 * base) (flat result)
  pub child : At w (6 * p) (flat group)
  pub left : At w (6 * (p + c)) (flat rest)
  pub tame_done : Each Tame result
  pub tame_child : Each Tame group
  pub tame_left : Each Tame rest
  pub held : NamedHeld w s z
  pub first : s.first ≤ 1100000

pub record StandingThere (w : List ℕ) (q p c : ℕ) (s : Naming) : Type 0 where
  pub base : ℕ
  pub count : ℕ
  pub result : List Atom
  pub group : List Atom
  pub rest : List Atom
  pub state : Rules.Naming
  pub standing : Standing w base count q p c result group rest s state

-- after it
pub record Onward (w : List ℕ) (base q p : ℕ) (result rest : List Atom) (s : Naming) (added : List Atom) (any : Bool) (z : Rules.Naming) (m : Naming) (r : ℕ) (b : Bool) : Type 0 where
  pub here : r ≡ q + length added
  pub below : r ≤ p
  pub named : b ≡ any
  pub done : At w (6 * base) (flat (result ++ added))
  pub left : At w (6 * p) (flat rest)
  pub tame : Each Tame (result ++ added)
  pub held : NamedHeld w m z
  pub first : m.first ≡ s.first
  pub quiet : b ≡ false → m ≡ s

-- what is reached then
abbrev pub Turned : Type 0
Turned = Result Reached Refusal

abbrev pub TurnedBy : (w : List ℕ) → (base q p : ℕ) → (result rest : List Atom) → Naming → Res Rules.Naming (List Atom × Bool) → Turned → Type 0
TurnedBy w base q p result rest s (ok o z) (Ok r) = Onward w base q p result rest s o.0 o.1 z r.naming r.end r.any
TurnedBy w base q p result rest s (ok o z) (Err x) = Full x z
TurnedBy w base q p result rest s (refused k) r = ⊥

-- ---- the children
unfoldable pub groups_rule : ℕ → ℕ → List ℕ → Groups → W (Option (List Atom))
groups_rule f root kept g = name_groups (λ a b c. name_by f a b c) root kept g.groups g.root_atoms false

-- each has an atom
abbrev pub Filled : List (ℕ × List Atom) → Type 0
Filled l = Each (λ (g : ℕ × List Atom). 1 ≤ length g.1) l

pub record Laid (w tops counts : List ℕ) (base count : ℕ) (g : Groups) (r : ℕ) : Type 0 where
  pub arranged : Arranged w tops counts base count g r
  pub tame : Each Tame (g.root_atoms ++ all_of g.groups)
  pub filled : Filled g.groups

pub record LaidThere (w tops counts : List ℕ) (base count r : ℕ) : Type 0 where
  pub groups : Groups
  pub laid : Laid w tops counts base count groups r
