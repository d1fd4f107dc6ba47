-- What the rules are handed between two axioms: roles and fresh classes that fit the bounds, and the limits that wait, if any;
-- and which axioms name limits. Assumes nothing.
use Rattle.std.specs.Prelude.{◌≡◌, Bool, true, false, ℕ, ◌+◌, ◌<◌, ◌≤◌, [], length}
use Rattle.ir.specs.declared.role.Role.{Role}
use Rattle.rules.specs.Concept.{Axiom}
use Rattle.rules.specs.Concept.{SubClassOf, EquivalentClasses, DisjointClasses, DisjointUnion, ObjectPropertyDomain, ObjectPropertyRange, SubChain, TransitiveRole, IrreflexiveRole, AsymmetricRole, DisjointObjectProperties, InverseObjectProperties, SubObjectPropertyOf, EquivalentObjectProperties, ReflexiveRole, ClassAssertion}
use Rattle.rules.specs.State.{Env, canon}
use Rattle.rules.specs.Axioms.{Clausifier}
use Rattle.rules.specs.Invariants.{Each, Bounds, up_to, Wf, RoleIn, NamesFrom}

-- the map of inverses stays within the declared roles
abbrev pub RolesKept : Bounds → Env → Type 0
RolesKept B env = (r : Role) → RoleIn B r → RoleIn B (canon env r)

-- the fresh classes come after those of classes and individuals
pub record Above (B : Bounds) (env : Env) (fresh : ℕ) : Type 0 where
  pub classes : (a : ℕ) → a < B.classes → a < fresh
  pub individuals : (i : ℕ) → i < B.individuals → env.nominal_base + i < fresh

-- the limits that wait name classes above those of the pool, in order, and concepts of the pool
pub record Awaits (B : Bounds) (z : Clausifier) : Type 0 where
  pub above : ℕ
  pub wf : Wf (up_to B above) z.pool
  pub named : NamesFrom above z.out.limits z.out.next_fresh
  pub held : Each (λ w. w.filler < length z.pool) z.out.limits

-- what the rules are handed, with limits that wait
pub record Settling (B : Bounds) (env : Env) (z : Clausifier) : Type 0 where
  pub awaits : Awaits B z
  pub above : Above B env z.out.next_fresh
  pub vars : z.out.next_var ≤ z.out.visits + 3

-- and with none
pub record Ready (B : Bounds) (env : Env) (z : Clausifier) : Type 0 where
  pub wf : Wf (up_to B z.out.next_fresh) z.pool
  pub above : Above B env z.out.next_fresh
  pub vars : z.out.next_var ≤ z.out.visits + 3
  pub none : z.out.limits ≡ []

-- the kinds that make heads
abbrev pub names_limits : Axiom → Bool
names_limits (SubClassOf _ _) = true
names_limits (EquivalentClasses _) = true
names_limits (DisjointClasses _) = false
names_limits (DisjointUnion _ _) = false
names_limits (ObjectPropertyDomain _ _) = true
names_limits (ObjectPropertyRange _ _) = true
names_limits (SubChain _ _) = false
names_limits (TransitiveRole _) = false
names_limits (IrreflexiveRole _) = false
names_limits (AsymmetricRole _) = false
names_limits (DisjointObjectProperties _) = false
names_limits (InverseObjectProperties _ _) = false
names_limits (SubObjectPropertyOf _ _) = false
names_limits (EquivalentObjectProperties _) = false
names_limits (ReflexiveRole _) = false
names_limits (ClassAssertion _ _) = false
