-- Named branches in the words of scratch, one word an atom.
use Rattle.std.specs.Prelude.{◌≡◌, Result, Ok, Err, List, [], ◌∷◌, ◌++◌, map, ℕ, ◌+◌, ◌*◌, ◌<◌, ◌≤◌, length, get_or}
use Rattle.std.proofs.Math.Option.{none}
use Rattle.ir.specs.Roles.{role_code}
use Rattle.ir.specs.declared.refusal.Refusal.{Refusal}
use Rattle.ir.specs.declared.refusal.Refusal.TheVariants.{NoRoom}
use Rattle.ir.specs.declared.atom.Atom.{Atom}
use Rattle.ir.specs.declared.atom.Atom.TheVariants.{Class, Exists, AtMost, AtLeast, Equal, Role as RoleAtom}
use Rattle.rules.specs.Base.{ok}
use Rattle.rules.specs.Invariants.{Each}
use Rattle.rules.specs.Branches.{Branch, memo_of, name_of}
use Rattle.rules.specs.Branches as Rules
use Rattle.branches.specs.Layout.{most_named, filter_at, named_end, met_at, keep_at, renumbered_at}
use Rattle.tables.specs.TabledLaws.{At}
use Rattle.branches.specs.Wide.{AtomsAre}
use Rattle.branches.specs.Hash.{hash_of}
use Rattle.branches.specs.declared.memo.Naming.{Naming}

-- ---- an atom in a word
abbrev pub packed : Atom → ℕ
packed (Class k v) = 2 * (1024 * k + v)
packed (RoleAtom r u v) = 2 * (1024 * (1024 * role_code r + u) + v) + 1
packed (Exists _ _ _) = 0
packed (AtMost _ _ _ _) = 0
packed (AtLeast _ _ _ _) = 0
packed (Equal _ _) = 0

-- a class or role atom with a class below 2^21, a role code below 2^11 and variables below 2^10
abbrev pub Packable : Atom → Type 0
Packable (Class k v) = (k < 2097152) × (v < 1024)
Packable (RoleAtom r u v) = (role_code r < 2048) × (u < 1024) × (v < 1024)
Packable (Exists _ _ _) = ⊥
Packable (AtMost _ _ _ _) = ⊥
Packable (AtLeast _ _ _ _) = ⊥
Packable (Equal _ _) = ⊥

-- the same with any variables
abbrev pub Tame : Atom → Type 0
Tame (Class k v) = k < 2097152
Tame (RoleAtom r u v) = role_code r < 2048
Tame (Exists _ _ _) = ⊥
Tame (AtMost _ _ _ _) = ⊥
Tame (AtLeast _ _ _ _) = ⊥
Tame (Equal _ _) = ⊥

-- class and role atoms in records
pub record TameThere (w : List ℕ) (base count : ℕ) : Type 0 where
  pub list : List Atom
  pub are : AtomsAre w base count list
  pub tame : Each Tame list

-- ---- the branches
unfoldable pub named_words : List Branch → List ℕ
named_words [] = []
named_words (b ∷ l) = length b.body ∷ (map packed b.body ++ named_words l)

abbrev pub no_branch : Branch
no_branch = record { body = []; name = 0 }

-- the filter's word for the branch is set
abbrev pub Marked : List ℕ → Branch → Type 0
Marked w b = get_or w (filter_at + hash_of (map packed b.body)) 0 ≡ 1

-- the rule's state z in the words w and the code's numbers: names follow one another
pub record NamedHeld (w : List ℕ) (s : Naming) (z : Rules.Naming) : Type 0 where
  pub many : s.named ≡ length z.named
  pub names : (i : ℕ) → i < s.named → (get_or z.named i no_branch).name ≡ s.first + i
  pub next : z.next_fresh ≡ s.first + s.named
  pub used : s.used ≡ length (named_words z.named)
  pub few : s.used ≤ most_named
  pub words : At w 0 (named_words z.named)
  pub bodies : Each (λ b. Each Packable b.body × (length b.body ≤ 256)) z.named
  pub marks : Each (Marked w) z.named

pub record NamedThere (w : List ℕ) (s : Naming) : Type 0 where
  pub state : Rules.Naming
  pub held : NamedHeld w s state

-- a name for a body: the rule's, or no room for one more branch
pub record Named (w : List ℕ) (body : List Atom) (z : Rules.Naming) (s : Naming) (e : ℕ) : Type 0 where
  pub state : Rules.Naming
  pub is : name_of body z ≡ ok e state
  pub held : NamedHeld w s state

abbrev pub NamedBy : List ℕ → List Atom → Rules.Naming → Result (Naming × ℕ) Refusal → Type 0
NamedBy w body z (Ok r) = Named w body z r.0 r.1
NamedBy w body z (Err e) = (e ≡ NoRoom) × (memo_of z.named body ≡ none) × (most_named < length (named_words z.named) + 1 + length body)

-- the bodies under work, the tree and the variables to keep are as they were
pub record OnlyMemo (w w' : List ℕ) : Type 0 where
  pub work : (j : ℕ) → named_end ≤ j → j < met_at → get_or w' j 0 ≡ get_or w j 0
  pub keep : (j : ℕ) → keep_at ≤ j → j < renumbered_at → get_or w' j 0 ≡ get_or w j 0
