-- encode_antecedent's answers: the code keeps how many alternatives there are and how long the longest is.
use Rattle.std.specs.Prelude.{◌≡◌, [], ◌∷◌, ℕ, ◌+◌, ◌≤◌, max, length}
use Rattle.std.proofs.Math.Option.{Option, none, some}
use Rattle.ir.specs.Counts.{counters}
use Rattle.ir.specs.declared.counters.Counters.{Counters}
use Rattle.ir.specs.Encoded.{Encoded}
use Rattle.ir.specs.Encoded.{Found, Unsupported, Refused}
use Rattle.rules.specs.Base.{Res, ok}
use Rattle.rules.specs.Base as Base
use Rattle.rules.specs.State.{Out}
use Rattle.rules.specs.Antecedents.{Alternatives}

-- the counters that encode_antecedent reads and changes are the state's
pub record Counted (k : Counters) (s : Out) : Type 0 where
  pub visits : k.visits ≡ s.visits
  pub limit : k.limit ≡ s.limit
  pub vars : k.next_var ≡ s.next_var

-- a state whose variables are far from the last number
pub record Fine (s : Out) : Type 0 where
  pub most : s.limit ≤ 1000000
  pub seen : s.visits ≤ s.limit
  pub vars : s.next_var ≤ s.visits + 4

-- k with the visits and variables of a state
abbrev pub varied : Counters → Out → Counters
varied k s = counters s.visits k.limit k.concepts k.members s.next_var k.next_class k.clauses k.atoms k.deferrals k.line k.nominal_base k.options

unfoldable pub longest : Alternatives → ℕ
longest [] = 0
longest (b ∷ l) = max (length b) (longest l)

-- a rule's answer, as the code gives it
abbrev pub summary : Counters → Res Out (Option Alternatives) → Encoded
summary k (ok (some l) s) = Found (varied k s) (length l) (longest l)
summary k (ok none s) = Unsupported (varied k s)
summary k (Base.refused e) = Refused e
