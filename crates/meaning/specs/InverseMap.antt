-- The map of inverses keeps the pairs of every role, in an interpretation that satisfies the axioms on inverses; and it turns
-- with a role. Assumes nothing.
use Rattle.std.specs.Prelude.{◌≡◌, Bool, not, ◌||◌, ℕ, zero, suc, ◌<◌, length}
use Rattle.std.proofs.Math.Path.{refl}
use Rattle.std.proofs.Common.{sym, ◌∙◌, eqb-true}
use Rattle.std.proofs.Math.Bool.{true, false}
use mathlib.Core.List.{List, [], ◌∷◌}
use Rattle.std.proofs.Math.Option.{Option, none, some}
use Rattle.std.proofs.Math.Dec.{eqb}
use Rattle.ir.specs.Pick.{pick}
use Rattle.ir.specs.Roles.{role_id, flipped, flip_flip}
use Rattle.ir.specs.declared.role.Role.{Role}
use Rattle.ir.specs.declared.role.Role.TheVariants.{Named, Inverse}
use Rattle.rules.specs.Base.{all}
use Rattle.rules.specs.Concept.{Axiom}
use Rattle.rules.specs.Concept.{SubClassOf, EquivalentClasses, DisjointClasses, DisjointUnion, ObjectPropertyDomain, ObjectPropertyRange, SubChain, TransitiveRole, IrreflexiveRole, AsymmetricRole, DisjointObjectProperties, InverseObjectProperties, SubObjectPropertyOf, EquivalentObjectProperties, ReflexiveRole, ClassAssertion}
use Rattle.rules.specs.Pool.{Pool}
use Rattle.rules.specs.Inverse.{Entry, InverseCanon, lookup, skipped, declared, inverse_of, build_from, build_inverse_canon, canon_of, canon_role, stays, follow_by, follow, mapped_by, followed, inverse_canon_of}
use Rattle.rules.specs.State.{Env, canon}
use Rattle.rules.specs.Invariants.{Each}
use Rattle.rules.specs.Semantics.{Interpretation, related, every_pair, same_truth, satisfied}
use Rattle.rules.specs.Statements.{is_inverse_axiom}
use Rattle.meaning.specs.Truth.{same_truth_lem, elements_all, all_each}

-- a test over the pairs of elements, at one of them
pub every_pair_lem : (I : Interpretation) (f : ℕ → ℕ → Bool) → every_pair I f ≡ true → (x y : ℕ) → x < I.size → y < I.size → f x y ≡ true
every_pair_lem I f h x y u v = elements_all I.size (f x) (elements_all I.size _ h x u) y v

-- P of either list is P of the one picked
pub each_pick : {A : Type 0} (P : A → Type 0) (b : Bool) (k l : List A) → Each P k → Each P l → Each P (pick b k l)
each_pick P true k l u v = u
each_pick P false k l u v = v

-- ---- the map turns with the role
turn_of : (r : Role) (o : Option Role) → canon_of (flipped r) o ≡ flipped (canon_of r o)
turn_of (Named i) none = refl
turn_of (Named i) (some q) = refl
turn_of (Inverse i) none = refl
turn_of (Inverse i) (some q) = sym (flip_flip q)

pub canon_turns : (m : InverseCanon) (r : Role) → canon_role m (flipped r) ≡ flipped (canon_role m r)
unfolding canon_role
canon_turns m (Named i) = turn_of (Named i) (lookup m i)
canon_turns m (Inverse i) = turn_of (Inverse i) (lookup m i)

module _ (I : Interpretation) where
  -- an inverse's pairs are turned
  pub flip_turns : (r : Role) (x y : ℕ) → related I (flipped r) x y ≡ related I r y x
  flip_turns (Named i) x y = refl
  flip_turns (Inverse i) x y = refl

  -- two roles have the same pairs of elements
  abbrev pub SamePairs : Role → Role → Type 0
  SamePairs r s = (x y : ℕ) → x < I.size → y < I.size → related I r x y ≡ related I s x y

  abbrev Kept : Entry → Type 0
  Kept e = SamePairs e.value (Named e.key)

  abbrev KeptFor : ℕ → Option Role → Type 0
  KeptFor k none = Unit {0}
  KeptFor k (some q) = SamePairs q (Named k)

  -- ---- what a map of kept entries answers
  lookup_kept : (m : InverseCanon) (k : ℕ) → Each Kept m → KeptFor k (lookup m k)
  unfolding lookup
  lookup_kept [] k u = tt
  lookup_kept (e ∷ m) k u = go (eqb e.key k) refl (lookup_kept m k u.1)
    where
      go : (b : Bool) → eqb e.key k ≡ b → KeptFor k (lookup m k) → KeptFor k (pick b (some e.value) (lookup m k))
      go true h v = rw (← (eqb-true e.key k h)) u.0
      go false h v = v

  of_kept : (r : Role) (o : Option Role) → KeptFor (role_id r) o → SamePairs (canon_of r o) r
  of_kept r none u x y a b = refl
  of_kept (Named i) (some q) u x y a b = u x y a b
  of_kept (Inverse i) (some q) u x y a b = flip_turns q x y ∙ u y x b a

  map_keeps : (m : InverseCanon) → Each Kept m → (r : Role) → SamePairs (canon_role m r) r
  unfolding canon_role
  map_keeps m u r = of_kept r (lookup m (role_id r)) (lookup_kept m (role_id r) u)

  -- ---- every entry of the map is kept
  declared_kept : (p : Pool) (m : InverseCanon) (r s : Role) → Each Kept m → satisfied I p (InverseObjectProperties r s) ≡ true → Each Kept (declared m r s)
  declared_kept p m (Named i) (Named j) u h =
      each_pick Kept (skipped m (Named i) (Named j)) m (record { key = j; value = Inverse i } ∷ m) u
      ((λ x y a b. same_truth_lem _ _ (every_pair_lem I (λ x y. same_truth (I.role i x y) (I.role j y x)) h y x b a)), u)
  declared_kept p m (Named i) (Inverse j) u h = u
  declared_kept p m (Inverse i) s u h = u

  axiom_kept : (p : Pool) (m : InverseCanon) (a : Axiom) → Each Kept m → not (is_inverse_axiom a) || satisfied I p a ≡ true → Each Kept (inverse_of m a)
  axiom_kept p m (SubClassOf _ _) u h = u
  axiom_kept p m (EquivalentClasses _) u h = u
  axiom_kept p m (DisjointClasses _) u h = u
  axiom_kept p m (DisjointUnion _ _) u h = u
  axiom_kept p m (ObjectPropertyDomain _ _) u h = u
  axiom_kept p m (ObjectPropertyRange _ _) u h = u
  axiom_kept p m (SubChain _ _) u h = u
  axiom_kept p m (TransitiveRole _) u h = u
  axiom_kept p m (IrreflexiveRole _) u h = u
  axiom_kept p m (AsymmetricRole _) u h = u
  axiom_kept p m (DisjointObjectProperties _) u h = u
  axiom_kept p m (InverseObjectProperties r s) u h = declared_kept p m r s u h
  axiom_kept p m (SubObjectPropertyOf _ _) u h = u
  axiom_kept p m (EquivalentObjectProperties _) u h = u
  axiom_kept p m (ReflexiveRole _) u h = u
  axiom_kept p m (ClassAssertion _ _) u h = u

  build_kept : (p : Pool) (m : InverseCanon) (axioms : List Axiom) → Each Kept m → Each (λ a. not (is_inverse_axiom a) || satisfied I p a ≡ true) axioms → Each Kept (build_from m axioms)
  unfolding build_from
  build_kept p m [] u h = u
  build_kept p m (a ∷ l) u h = build_kept p (inverse_of m a) l (axiom_kept p m a u h.0) h.1

  -- ---- option 8: every step keeps the pairs, so all of them do
  follow_keeps : (n : ℕ) (m : InverseCanon) → Each Kept m → (r : Role) → SamePairs (follow_by n m r) r
  unfolding follow_by
  follow_keeps zero m u r x y a b = refl
  follow_keeps (suc n) m u r x y a b = go (stays m (role_id r)) (follow_keeps n m u (canon_role m r) x y a b)
    where
      go : (c : Bool) → related I (follow_by n m (canon_role m r)) x y ≡ related I (canon_role m r) x y → related I (pick c r (follow_by n m (canon_role m r))) x y ≡ related I r x y
      go true ih = refl
      go false ih = ih ∙ map_keeps m u r x y a b

  kept_by : (g : ℕ → Role) → ((k : ℕ) → SamePairs (g k) (Named k)) → (m : InverseCanon) → Each Kept (mapped_by g m)
  kept_by g h [] = tt
  kept_by g h (e ∷ m) = (h e.key, kept_by g h m)

  either_kept : (far : Bool) (m : InverseCanon) → Each Kept m → Each Kept (pick far (followed m) m)
  either_kept true m u = kept_by (λ k. follow m (Named k)) (λ k. follow_keeps (length m) m u (Named k)) m
  either_kept false m u = u

  -- the pool is not read
  pub canon_keeps : (far : Bool) (p : Pool) (axioms : List Axiom) → all (λ a. not (is_inverse_axiom a) || satisfied I p a) axioms ≡ true
      → (r : Role) (x y : ℕ) → x < I.size → y < I.size → related I (canon_role (inverse_canon_of far axioms) r) x y ≡ related I r x y
  canon_keeps far p axioms h = map_keeps (inverse_canon_of far axioms) (either_kept far (build_inverse_canon axioms) (build_kept p [] axioms tt (all_each _ axioms h)))

  pub env_keeps : (far : Bool) (env : Env) (p : Pool) (axioms : List Axiom) → env.inverse_canon ≡ inverse_canon_of far axioms → all (λ a. not (is_inverse_axiom a) || satisfied I p a) axioms ≡ true
      → (r : Role) → SamePairs (canon env r) r
  env_keeps far env p axioms e h r = rw e (canon_keeps far p axioms h r)
