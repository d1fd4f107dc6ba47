-- One clause's body: what the pass makes of it, beside the rule.
use Rattle.std.specs.Prelude.{◌≡◌, Some, None, Ok, Err, Bool, true, false, List, ℕ, ◌<◌, ◌≤◌, length, get_or}
use Rattle.std.proofs.Math.Option.{Option, none, some}
use Rattle.ir.specs.declared.atom.Atom.{Atom}
use Rattle.rules.specs.Base.{Res, ok, refused, return}
use Rattle.rules.specs.Deck.{most_roles}
use Rattle.rules.specs.State.{Clause}
use Rattle.rules.specs.Branches.{W, stays_whole, name_branches, head_vars}
use Rattle.rules.specs.Branches as Rules
use Rattle.rules.specs.Invariants.{Bounds, ClauseIn}
use Rattle.tables.specs.Tabled.{Run}
use Rattle.branches.specs.Layout.{body_at, keep_at, renumbered_at}
use Rattle.branches.specs.Memo.{NamedHeld}
use Rattle.naming.specs.Names.{To, Reduced, Full}
use Rattle.branches.specs.declared.memo.Naming.{Naming}

-- ---- the rule
abbrev pub reduction : Clause → Bool → W (Option (List Atom))
reduction c true = return none
reduction c false = name_branches c.body 0 (head_vars c.head)

-- the new body of a clause, or none
abbrev pub reduced : Clause → W (Option (List Atom))
reduced c = reduction c (stays_whole c.body)

-- ---- a clause in two parts, the bytes of its body and of its head: some clause, whose atoms name roles that there may be and
-- classes below 2^21
pub record PartsThere (body head : List ℕ) : Type 0 where
  pub clause : Clause
  pub body_is : Run body clause.body
  pub head_is : Run head clause.head
  pub bounds : Bounds
  pub roles : bounds.roles ≤ most_roles
  pub fresh : ℕ
  pub classes : fresh ≤ 2097152
  pub vars : ℕ
  pub inside : ClauseIn bounds fresh vars clause

-- ---- the code's answer beside the rule's; the new body stands from record BODY on
abbrev pub OneBy : List ℕ → Naming → Clause → Res Rules.Naming (Option (List Atom)) → Reduced → Type 0
OneBy w s x (ok (some b) z) (Ok (Some r)) = To w body_at (length x.body) b z s r.0 r.1
OneBy w s x (ok (some b) z) (Ok None) = ⊥
OneBy w s x (ok none z) (Ok (Some r)) = ⊥
OneBy w s x (ok none z) (Ok None) = NamedHeld w s z
OneBy w s x (ok o z) (Err e) = Full e z
OneBy w s x (refused k) r = ⊥

-- only the variables to keep were written
pub record OnlyKeep (w w' : List ℕ) : Type 0 where
  pub before : (j : ℕ) → j < keep_at → get_or w' j 0 ≡ get_or w j 0
  pub behind : (j : ℕ) → renumbered_at ≤ j → get_or w' j 0 ≡ get_or w j 0
