-- Every role is mapped to one of the roles that a deck may have. Assumes nothing.
use Rattle.std.specs.Prelude.{◌≡◌, Bool, List, ℕ, ◌+◌, ◌*◌, ◌<◌, ◌≤◌, get_or}
use Rattle.std.proofs.Common.{subst, arith}
use Rattle.words.specs.Words.{words}
use Rattle.ir.specs.Scratch.{roles_at}
use Rattle.ir.specs.Roles.{role_code, code_below}
use Rattle.ir.specs.declared.role.Role.{Role}
use Rattle.ir.specs.declared.role.Role.TheVariants.{Named}
use Rattle.rules.specs.Concept.{Axiom}
use Rattle.rules.specs.Concept.{SubClassOf, EquivalentClasses, DisjointClasses, DisjointUnion, ObjectPropertyDomain, ObjectPropertyRange, SubChain, TransitiveRole, IrreflexiveRole, AsymmetricRole, DisjointObjectProperties, InverseObjectProperties, SubObjectPropertyOf, EquivalentObjectProperties, ReflexiveRole, ClassAssertion}
use Rattle.rules.specs.Inverse.{inverse_canon_of, canon_role}
use Rattle.rules.specs.Deck.{most_roles}
use Rattle.rules.specs.Invariants.{Each, Bounds, RoleIn, AxiomIn}
use Rattle.rules.specs.EachLaws.{each_map}
use Rattle.rules.proofs.AntecedentLaws.{canon_in}
use Rattle.ontology.specs.Layout.{axioms_of}
use Rattle.inverse.specs.Layout.{RolesHeld, Building}

-- ---- more roles
module _ (B : Bounds) (m : ℕ) (l : B.roles ≤ m) where
  abbrev pub wider : Bounds
  wider = record { classes = B.classes; individuals = B.individuals; roles = m }

  role_wider : (r : Role) → RoleIn B r → RoleIn wider r
  role_wider r h = omega arith

  pub axiom_wider : (n : ℕ) (a : Axiom) → AxiomIn B n a → AxiomIn wider n a
  axiom_wider n (SubClassOf _ _) h = h
  axiom_wider n (EquivalentClasses _) h = h
  axiom_wider n (DisjointClasses _) h = h
  axiom_wider n (DisjointUnion _ _) h = h
  axiom_wider n (ObjectPropertyDomain r _) h = (role_wider r h.0, h.1)
  axiom_wider n (ObjectPropertyRange r _) h = (role_wider r h.0, h.1)
  axiom_wider n (SubChain r k) h = (role_wider r h.0, each_map (RoleIn B) (RoleIn wider) role_wider k h.1)
  axiom_wider n (TransitiveRole r) h = role_wider r h
  axiom_wider n (IrreflexiveRole r) h = role_wider r h
  axiom_wider n (AsymmetricRole r) h = role_wider r h
  axiom_wider n (DisjointObjectProperties k) h = each_map (RoleIn B) (RoleIn wider) role_wider k h
  axiom_wider n (InverseObjectProperties r s) h = (role_wider r h.0, role_wider s h.1)
  axiom_wider n (SubObjectPropertyOf r s) h = (role_wider r h.0, role_wider s h.1)
  axiom_wider n (EquivalentObjectProperties k) h = each_map (RoleIn B) (RoleIn wider) role_wider k h
  axiom_wider n (ReflexiveRole r) h = role_wider r h
  axiom_wider n (ClassAssertion _ _) h = h

-- ---- the codes of the map
-- of axioms whose roles are below m
pub canon_below : (B : Bounds) (n m : ℕ) (far : Bool) (l : List Axiom) → B.roles ≤ m → Each (AxiomIn B n) l → (r : ℕ) → r < m → role_code (canon_role (inverse_canon_of far l) (Named r)) < 2 * m
canon_below B n m far l h u r i =
    code_below (canon_role (inverse_canon_of far l) (Named r)) m
    (canon_in (wider B m h) n far l (each_map (AxiomIn B n) (AxiomIn (wider B m h) n) (axiom_wider B m h n) l u) (Named r) i)

-- in scratch's bytes s
pub map_within : (s : List ℕ) (n : ℕ) (far : Bool) (l : List Axiom) → Building s n → axioms_of (words s) n ≡ l → RolesHeld (words s) (inverse_canon_of far l) → (r : ℕ) → r < most_roles → get_or (words s) (roles_at + r) 0 < 2 * most_roles
map_within s n far l A e R r h =
    let u : Each (AxiomIn A.bounds A.concepts) l = subst (Each (AxiomIn A.bounds A.concepts)) e A.inside in
    omega (arith, R.mapped r h, canon_below A.bounds A.concepts most_roles far l A.few u r h)
