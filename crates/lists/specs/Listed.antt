-- The words of an axiom's list, and a pair of disjoint roles.
use Rattle.std.specs.Prelude.{List, ℕ, ◌+◌, ◌*◌, ◌<◌, ◌≤◌, get_or, eqb}
use Prim.{Unit}
use Rattle.ir.specs.Roles.{role_code}
use Rattle.ir.specs.Scratch.{numbers_at, lines_at}
use Rattle.ir.specs.declared.role.Role.{Role}
use Rattle.ir.specs.declared.counters.Counters.{Counters}
use Rattle.rules.specs.Deck.{most_roles}
use Rattle.rules.specs.State.{Env}
use Rattle.rules.specs.Axioms.{C, in_out, disjoint_roles}

-- the `count` words from i on are concepts, among the axioms' numbers
pub record Listed (w : List ℕ) (k : Counters) (i count : ℕ) : Type 0 where
  pub above : numbers_at ≤ i
  pub below : i + count ≤ lines_at
  pub ids : (j : ℕ) → j < count → get_or w (i + j) 0 < k.concepts

-- or role codes
pub record RolesListed (w : List ℕ) (i count : ℕ) : Type 0 where
  pub above : numbers_at ≤ i
  pub below : i + count ≤ lines_at
  pub codes : (j : ℕ) → j < count → get_or w (i + j) 0 < 2 * most_roles

-- a pair of DisjointObjectProperties, as clausifyAxiom has it
abbrev pub pair_disjoint : Env → Role × Role → C (Unit {0})
pair_disjoint env p = in_out (λ pool. disjoint_roles env p pool (eqb (role_code p.0) (role_code p.1)))
