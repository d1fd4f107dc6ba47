-- clause.rs: ClauseStats.
use Rattle.std.specs.Prelude.{Bool, true, false, List, [], ◌∷◌, ℕ, ◌+◌, length, eqb, leb, ltb}
use Rattle.ir.specs.declared.atom.Atom.{Atom}
use Rattle.ir.specs.declared.atom.Atom.TheVariants.{Class, Exists, AtMost, AtLeast, Equal, Role as RoleAtom}
use Rattle.rules.specs.Base.{any}
use Rattle.rules.specs.State.{Clause}
use Rattle.rules.specs.Branches.{body_var_count, max_body_vars}

pub record ClauseStats : Type 0 where
  pub total : ℕ
  pub horn : ℕ
  pub disjunctive : ℕ
  pub bottom_headed : ℕ
  pub with_exists_head : ℕ
  pub deferred : ℕ
  pub decomposed : ℕ
  pub refused : ℕ

abbrev pub one : Bool → ℕ
one true = 1
one false = 0

unfoldable pub count_of : (Clause → Bool) → List Clause → ℕ
count_of p [] = 0
count_of p (c ∷ l) = one (p c) + count_of p l

abbrev pub is_bottom_headed : Clause → Bool
is_bottom_headed c = eqb (length c.head) 0

-- an empty head is Horn too
abbrev pub is_horn : Clause → Bool
is_horn c = leb (length c.head) 1

abbrev pub is_disjunctive : Clause → Bool
is_disjunctive c = ltb 1 (length c.head)

abbrev pub is_exists : Atom → Bool
is_exists (Class _ _) = false
is_exists (RoleAtom _ _ _) = false
is_exists (Exists _ _ _) = true
is_exists (AtMost _ _ _ _) = false
is_exists (AtLeast _ _ _ _) = false
is_exists (Equal _ _) = false

abbrev pub has_exists_head : Clause → Bool
has_exists_head c = any is_exists c.head

abbrev pub is_refused : Clause → Bool
is_refused c = ltb max_body_vars (body_var_count c.body)

-- of the clauses, the deferrals and the rewritten bodies
unfoldable pub clause_stats : List Clause → (deferred decomposed : ℕ) → ClauseStats
clause_stats l d n = record {
  total = length l;
  horn = count_of is_horn l;
  disjunctive = count_of is_disjunctive l;
  bottom_headed = count_of is_bottom_headed l;
  with_exists_head = count_of has_exists_head l;
  deferred = d;
  decomposed = n;
  refused = count_of is_refused l;
}

-- in the Rust's order
abbrev pub stats_numbers : ClauseStats → List ℕ
stats_numbers s = s.total ∷ s.horn ∷ s.disjunctive ∷ s.bottom_headed ∷ s.with_exists_head ∷ s.deferred ∷ s.decomposed ∷ s.refused ∷ []
