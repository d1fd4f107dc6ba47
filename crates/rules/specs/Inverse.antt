-- clause.rs: build_inverse_canon and canon_role; and with option 8 a role followed through several entries.
use Rattle.std.specs.Prelude.{Bool, not, ◌||◌, ◌&&◌, List, [], ◌∷◌, map, ℕ, zero, suc, length, eqb, leb}
use Rattle.std.proofs.Math.Option.{Option, none, some}
use Rattle.ir.specs.declared.role.Role.{Role}
use Rattle.ir.specs.declared.role.Role.TheVariants.{Named}
use Rattle.ir.specs.Pick.{pick}
use Rattle.ir.specs.Roles.{role_id, is_inverse, flipped}
use Rattle.rules.specs.Base.{is_some, all, contains}
use Rattle.rules.specs.Concept.{Axiom}
use Rattle.rules.specs.Concept.{SubClassOf, EquivalentClasses, DisjointClasses, DisjointUnion, ObjectPropertyDomain, ObjectPropertyRange, SubChain, TransitiveRole, IrreflexiveRole, AsymmetricRole, DisjointObjectProperties, InverseObjectProperties, SubObjectPropertyOf, EquivalentObjectProperties, ReflexiveRole, ClassAssertion}

-- HashMap<RoleId, Role>: each key once
pub record Entry : Type 0 where
  pub key : ℕ
  pub value : Role

abbrev pub InverseCanon : Type 0
InverseCanon = List Entry

unfoldable pub lookup : InverseCanon → ℕ → Option Role
lookup [] k = none
lookup (e ∷ m) k = pick (eqb e.key k) (some e.value) (lookup m k)

-- S ≡ R⁻: S's id is mapped to R⁻, unless one of the two is an inverse code, they are one role, or either is a key already
abbrev pub skipped : InverseCanon → Role → Role → Bool
skipped m r s = is_inverse r || is_inverse s || eqb (role_id r) (role_id s) || is_some (lookup m (role_id r)) || is_some (lookup m (role_id s))

abbrev pub declared : InverseCanon → Role → Role → InverseCanon
declared m r s = pick (skipped m r s) m (record { key = role_id s; value = flipped r } ∷ m)

abbrev pub inverse_of : InverseCanon → Axiom → InverseCanon
inverse_of m (SubClassOf _ _) = m
inverse_of m (EquivalentClasses _) = m
inverse_of m (DisjointClasses _) = m
inverse_of m (DisjointUnion _ _) = m
inverse_of m (ObjectPropertyDomain _ _) = m
inverse_of m (ObjectPropertyRange _ _) = m
inverse_of m (SubChain _ _) = m
inverse_of m (TransitiveRole _) = m
inverse_of m (IrreflexiveRole _) = m
inverse_of m (AsymmetricRole _) = m
inverse_of m (DisjointObjectProperties _) = m
inverse_of m (InverseObjectProperties r s) = declared m r s
inverse_of m (SubObjectPropertyOf _ _) = m
inverse_of m (EquivalentObjectProperties _) = m
inverse_of m (ReflexiveRole _) = m
inverse_of m (ClassAssertion _ _) = m

unfoldable pub build_from : InverseCanon → List Axiom → InverseCanon
build_from m [] = m
build_from m (a ∷ l) = build_from (inverse_of m a) l

abbrev pub build_inverse_canon : List Axiom → InverseCanon
build_inverse_canon l = build_from [] l

abbrev pub canon_of : Role → Option Role → Role
canon_of r none = r
canon_of r (some canon) = pick (is_inverse r) (flipped canon) canon

unfoldable pub canon_role : InverseCanon → Role → Role
canon_role m r = canon_of r (lookup m (role_id r))

-- ---- option 8, over any map
-- the ids that id i is mapped to, one after the other, at most n of them
abbrev pub and_on : (ℕ → List ℕ) → Option Role → List ℕ
and_on rest none = []
and_on rest (some q) = role_id q ∷ rest (role_id q)

unfoldable pub ids_from : InverseCanon → ℕ → ℕ → List ℕ
ids_from m zero i = []
ids_from m (suc n) i = and_on (λ j. ids_from m n j) (lookup m i)

-- a ring has at most as many ids as the map has entries
abbrev pub ring_from : InverseCanon → ℕ → List ℕ
ring_from m i = ids_from m (length m) i

-- a role stays where no mapping is left, and at the least id of a ring
abbrev pub stays : InverseCanon → ℕ → Bool
stays m i = not (is_some (lookup m i)) || (contains (ring_from m i) i && all (leb i) (ring_from m i))

-- at most n steps, each of which turns as its mapping does
unfoldable pub follow_by : ℕ → InverseCanon → Role → Role
follow_by zero m r = r
follow_by (suc n) m r = pick (stays m (role_id r)) r (follow_by n m (canon_role m r))

-- to where it stays: no entry is taken twice
abbrev pub follow : InverseCanon → Role → Role
follow m r = follow_by (length m) m r

-- the map of the same keys that gives each its own value
abbrev pub mapped_by : (ℕ → Role) → InverseCanon → InverseCanon
mapped_by g m = map (λ e. record { key = e.key; value = g e.key }) m

-- each key followed, so that one step in the map is all of them (FollowLaws)
abbrev pub followed : InverseCanon → InverseCanon
followed m = mapped_by (λ k. follow m (Named k)) m

abbrev pub inverse_canon_of : Bool → List Axiom → InverseCanon
inverse_canon_of far l = pick far (followed (build_inverse_canon l)) (build_inverse_canon l)
