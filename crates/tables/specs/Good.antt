-- Counters that no fresh variable or class makes overflow: each takes a visit, but for a few variables of an axiom of its own.
use Rattle.std.specs.Prelude.{◌≡◌, ℕ, ◌+◌, ◌≤◌}
use Rattle.std.proofs.Common.{ap, ◌∙◌, arith}
use Prim.{Unit}
use Rattle.ir.specs.declared.counters.Counters.{Counters}
use Rattle.ir.specs.Answer.{Answer}
use Rattle.ir.specs.Answer.{Done, Refused}

pub record Good (k : Counters) : Type 0 where
  pub most : k.limit ≤ 1000000
  pub seen : k.visits ≤ k.limit
  pub vars : k.next_var ≤ k.visits + 4
  pub names : k.next_class ≤ k.visits + 8192

-- the class ids of the axioms' clauses are below this
abbrev pub most_names : ℕ
most_names = 1008192

pub names_few : (k : Counters) → Good k → k.next_class ≤ most_names
names_few k g = omega (arith, g.most, g.seen, g.names)

abbrev pub GoodAnswer : Answer → Type 0
GoodAnswer (Done k i) = Good k
GoodAnswer (Refused e) = Unit {0}

-- a step that changes only the records' counts
pub good_same : (k k' : Counters) → k'.limit ≡ k.limit → k'.visits ≡ k.visits → k'.next_var ≡ k.next_var → k'.next_class ≡ k.next_class → Good k → Good k'
good_same k k' l v x q g = record { most = omega (arith, g.most); seen = omega (arith, g.seen); vars = omega (arith, g.vars); names = omega (arith, g.names) }

-- counters that differ in nothing that emitting reads
pub record Alike (k k' : Counters) : Type 0 where
  pub concepts : k'.concepts ≡ k.concepts
  pub members : k'.members ≡ k.members
  pub nominals : k'.nominal_base ≡ k.nominal_base
  pub options : k'.options ≡ k.options

abbrev pub KeptAnswer : Counters → Answer → Type 0
KeptAnswer k (Done k' i) = Alike k k'
KeptAnswer k (Refused e) = Unit {0}

-- a step whose result has k's
pub alike_step : (k k' : Counters) (g : Counters → Counters) → k' ≡ g k → (g k).concepts ≡ k.concepts → (g k).members ≡ k.members → (g k).nominal_base ≡ k.nominal_base → (g k).options ≡ k.options → Alike k k'
alike_step k k' g e c m n o = record {
  concepts = ap (λ (x : Counters). x.concepts) e ∙ c;
  members = ap (λ (x : Counters). x.members) e ∙ m;
  nominals = ap (λ (x : Counters). x.nominal_base) e ∙ n;
  options = ap (λ (x : Counters). x.options) e ∙ o;
}
