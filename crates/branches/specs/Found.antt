-- A renumbered body among the named branches.
use Rattle.std.specs.Prelude.{◌≡◌, Option, Some, None, List, map, ℕ, ◌+◌, ◌<◌, ◌≤◌, length, drop}
use Rattle.std.proofs.Math.Option.{Option as RuleOption, none, some}
use Rattle.ir.specs.declared.atom.Atom.{Atom}
use Rattle.rules.specs.Invariants.{Each}
use Rattle.rules.specs.Branches.{memo_of}
use Rattle.rules.specs.Branches as Rules
use Rattle.tables.specs.TabledLaws.{At}
use Rattle.branches.specs.Memo.{packed, Packable, named_words, NamedHeld}
use Rattle.branches.specs.declared.memo.Naming.{Naming}

-- the body in `count` words from r on
pub record BodyHeld (r : ℕ) (w : List ℕ) (count : ℕ) (body : List Atom) : Type 0 where
  pub long : count ≡ length body
  pub packable : Each Packable body
  pub words : At w r (map packed body)

-- the code's answer, the place of the branch, beside the rule's, its name
abbrev pub Found : Naming → RuleOption ℕ → Option ℕ → Type 0
Found s (some e) (Some i) = (i < s.named) × (e ≡ s.first + i)
Found s (some e) None = ⊥
Found s none (Some i) = ⊥
Found s none None = Unit {0}

-- before branch i, whose words begin at p: it is none of those before
pub record Searching (r : ℕ) (w : List ℕ) (s : Naming) (count p i : ℕ) : Type 0 where
  pub here : i ≤ s.named
  pub words : (z : Rules.Naming) → NamedHeld w s z → At w p (named_words (drop i z.named))
  pub room : (z : Rules.Naming) → NamedHeld w s z → p + length (named_words (drop i z.named)) ≡ s.used
  pub left : (body : List Atom) (z : Rules.Naming) → BodyHeld r w count body → NamedHeld w s z → memo_of z.named body ≡ memo_of (drop i z.named) body
