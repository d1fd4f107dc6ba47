-- name_branches: the code's answer beside the rule's.
use Rattle.std.specs.Prelude.{◌≡◌, Option, Some, None, Result, Ok, Err, List, [], ℕ, ◌+◌, ◌*◌, ◌<◌, ◌≤◌, length, get_or}
use Rattle.std.proofs.Math.Option.{Option as RuleOption, none, some}
use Rattle.ir.specs.declared.atom.Atom.{Atom}
use Rattle.ir.specs.declared.refusal.Refusal.{Refusal}
use Rattle.ir.specs.declared.refusal.Refusal.TheVariants.{NoRoom}
use Rattle.rules.specs.Base.{Res, ok, refused}
use Rattle.rules.specs.Branches as Rules
use Rattle.rules.specs.Invariants.{Each}
use Rattle.branches.specs.Layout.{most_named, named_end, copy_at, keep_at, renumbered_at}
use Rattle.branches.specs.Wide.{AtomsAre}
use Rattle.branches.specs.Memo.{Tame, named_words, NamedHeld}
use Rattle.branches.specs.declared.memo.Naming.{Naming}

-- a reduced body
pub record To (w : List ℕ) (base count : ℕ) (b : List Atom) (z : Rules.Naming) (s₀ s : Naming) (n : ℕ) : Type 0 where
  pub atoms : AtomsAre w base n b
  pub tame : Each Tame b
  pub shorter : n ≤ count
  pub held : NamedHeld w s z
  pub first : s.first ≡ s₀.first

-- nothing named: without a variable to keep the atoms l are as they were
pub record Not (w : List ℕ) (base count : ℕ) (l : List Atom) (kept : List ℕ) (z : Rules.Naming) (s : Naming) : Type 0 where
  pub atoms : kept ≡ [] → AtomsAre w base count l
  pub held : NamedHeld w s z

-- no room for the branches of the rule's state
abbrev pub Full : Refusal → Rules.Naming → Type 0
Full x z = (x ≡ NoRoom) × (most_named < length (named_words z.named))

-- the numbers then, and how many atoms are left; or nothing is named
abbrev pub Reduced : Type 0
Reduced = Result (Option (Naming × ℕ)) Refusal

-- the code's answer from the numbers s, beside the rule's
abbrev pub ReducedBy : (w : List ℕ) → (base count : ℕ) → List Atom → List ℕ → Naming → Res Rules.Naming (RuleOption (List Atom)) → Reduced → Type 0
ReducedBy w base count l kept s (ok (some b) z) (Ok (Some r)) = To w base count b z s r.0 r.1
ReducedBy w base count l kept s (ok (some b) z) (Ok None) = ⊥
ReducedBy w base count l kept s (ok none z) (Ok (Some r)) = ⊥
ReducedBy w base count l kept s (ok none z) (Ok None) = Not w base count l kept z s
ReducedBy w base count l kept s (ok o z) (Err x) = Full x z
ReducedBy w base count l kept s (refused k) r = ⊥

-- the atoms beside these, and the variables to keep, are as they were
pub record OnlyNames (base count : ℕ) (w w' : List ℕ) : Type 0 where
  pub before : (j : ℕ) → named_end ≤ j → j < 6 * base → get_or w' j 0 ≡ get_or w j 0
  pub between : (j : ℕ) → 6 * (base + count) ≤ j → j < 6 * copy_at → get_or w' j 0 ≡ get_or w j 0
  pub keep : (j : ℕ) → keep_at ≤ j → j < renumbered_at → get_or w' j 0 ≡ get_or w j 0
