-- The Rust's maps of inverses have no ring: a mapping leads to no older entry. So with option 8 a role is followed until no mapping is
-- left. Assumes nothing.
use Rattle.std.specs.Prelude.{◌≡◌, refl, Bool, not, ◌||◌, ◌&&◌, List, [], ◌∷◌, ℕ, zero, suc, ◌+◌, ◌≤◌, ◌<◌, length, eqb, leb}
use Rattle.std.proofs.Common.{sym, ap, ◌∙◌, eqb-true, ne_eqb}
use Rattle.std.proofs.Math.Bool.{true, false}
use Rattle.std.proofs.lemmas.Bool.{false≢true, or_parts}
use Rattle.std.proofs.Math.Option.{Option, none, some}
use native.Mathlib.Omega.{arith}
use borrow.Author.Tests.{eqb-false}
use Rattle.ir.specs.Pick.{pick}
use Rattle.ir.specs.Roles.{role_id, is_inverse, flipped, flip_id}
use Rattle.ir.specs.declared.role.Role.{Role}
use Rattle.rules.specs.Base.{is_some, all, contains}
use Rattle.rules.specs.Concept.{Axiom}
use Rattle.rules.specs.Concept.{SubClassOf, EquivalentClasses, DisjointClasses, DisjointUnion, ObjectPropertyDomain, ObjectPropertyRange, SubChain, TransitiveRole, IrreflexiveRole, AsymmetricRole, DisjointObjectProperties, InverseObjectProperties, SubObjectPropertyOf, EquivalentObjectProperties, ReflexiveRole, ClassAssertion}
use Rattle.rules.specs.Inverse.{InverseCanon, lookup, skipped, declared, inverse_of, build_from, build_inverse_canon, canon_role, and_on, ids_from, ring_from, stays, follow_by, follow}
use Rattle.rules.specs.Statements.{NoRing, FollowedToTheEnd}
use Rattle.rules.proofs.FollowLaws.{step_free, follow_free, follow_more}

-- ---- each entry's role is no key of an older entry, nor its own
abbrev pub Newer : InverseCanon → Type 0
Newer [] = Unit {0}
Newer (e ∷ m) = (lookup m (role_id e.value) ≡ none) × (eqb e.key (role_id e.value) ≡ false) × Newer m

pub no_some : {A : Type 0} (o : Option A) → is_some o ≡ false → o ≡ none
no_some none h = refl
no_some (some a) h = absurd (false≢true (sym h))

declared_newer : (m : InverseCanon) (r s : Role) → Newer m → Newer (declared m r s)
declared_newer m r s N = go (skipped m r s) refl
  where
    go : (b : Bool) → skipped m r s ≡ b → Newer (pick b m (record { key = role_id s; value = flipped r } ∷ m))
    go true h = N
    go false h =
        let x = or_parts (is_inverse r || is_inverse s || eqb (role_id r) (role_id s) || is_some (lookup m (role_id r))) (is_some (lookup m (role_id s))) h in
        let y = or_parts (is_inverse r || is_inverse s || eqb (role_id r) (role_id s)) (is_some (lookup m (role_id r))) x.0 in
        let z = or_parts (is_inverse r || is_inverse s) (eqb (role_id r) (role_id s)) y.0 in
        let apart : eqb (role_id s) (role_id r) ≡ false = ne_eqb (role_id s) (role_id r) (λ e. eqb-false (role_id r) (role_id s) z.1 (sym e)) in
        (rw (flip_id r) (no_some (lookup m (role_id r)) y.1), rw (flip_id r) apart, N)

axiom_newer : (m : InverseCanon) (a : Axiom) → Newer m → Newer (inverse_of m a)
axiom_newer m (SubClassOf _ _) N = N
axiom_newer m (EquivalentClasses _) N = N
axiom_newer m (DisjointClasses _) N = N
axiom_newer m (DisjointUnion _ _) N = N
axiom_newer m (ObjectPropertyDomain _ _) N = N
axiom_newer m (ObjectPropertyRange _ _) N = N
axiom_newer m (SubChain _ _) N = N
axiom_newer m (TransitiveRole _) N = N
axiom_newer m (IrreflexiveRole _) N = N
axiom_newer m (AsymmetricRole _) N = N
axiom_newer m (DisjointObjectProperties _) N = N
axiom_newer m (InverseObjectProperties r s) N = declared_newer m r s N
axiom_newer m (SubObjectPropertyOf _ _) N = N
axiom_newer m (EquivalentObjectProperties _) N = N
axiom_newer m (ReflexiveRole _) N = N
axiom_newer m (ClassAssertion _ _) N = N

build_newer : (m : InverseCanon) (l : List Axiom) → Newer m → Newer (build_from m l)
unfolding build_from
build_newer m [] N = N
build_newer m (a ∷ l) N = build_newer (inverse_of m a) l (axiom_newer m a N)

-- ---- how new a key's entry is; 0 of an id without a mapping
abbrev pub newness : InverseCanon → ℕ → ℕ
newness [] k = 0
newness (e ∷ m) k = pick (eqb e.key k) (suc (length m)) (newness m k)

pub newness_most : (m : InverseCanon) (k : ℕ) → newness m k ≤ length m
newness_most [] k = omega arith
newness_most (e ∷ m) k = go (eqb e.key k) (newness_most m k)
  where
    go : (b : Bool) → newness m k ≤ length m → pick b (suc (length m)) (newness m k) ≤ suc (length m)
    go true h = omega arith
    go false h = omega arith

pub free_newness : (m : InverseCanon) (k : ℕ) → lookup m k ≡ none → newness m k ≡ 0
unfolding lookup
free_newness [] k h = refl
free_newness (e ∷ m) k h = go (eqb e.key k) h (free_newness m k)
  where
    go : (b : Bool) → pick b (some e.value) (lookup m k) ≡ none → (lookup m k ≡ none → newness m k ≡ 0) → pick b (suc (length m)) (newness m k) ≡ 0
    go true z ih = absurd (false≢true (sym (ap is_some z)))
    go false z ih = ih z

pub newness_free : (m : InverseCanon) (k : ℕ) → newness m k ≡ 0 → lookup m k ≡ none
unfolding lookup
newness_free [] k h = refl
newness_free (e ∷ m) k h = go (eqb e.key k) h (newness_free m k)
  where
    go : (b : Bool) → pick b (suc (length m)) (newness m k) ≡ 0 → (newness m k ≡ 0 → lookup m k ≡ none) → pick b (some e.value) (lookup m k) ≡ none
    go true z ih = absurd (omega arith)
    go false z ih = ih z

pub newness_known : (m : InverseCanon) (i : ℕ) (q : Role) → lookup m i ≡ some q → 0 < newness m i
newness_known m i q h = go (newness m i) refl
  where
    go : (n : ℕ) → newness m i ≡ n → 0 < newness m i
    go zero e = absurd (false≢true (sym (ap is_some (newness_free m i e)) ∙ ap is_some h))
    go (suc n) e = omega arith

-- two keys are not as new as each other
pub newness_one : (m : InverseCanon) (i k : ℕ) → 0 < newness m i → newness m i ≡ newness m k → i ≡ k
newness_one [] i k p e = absurd (omega arith)
newness_one (x ∷ m) i k p e = go (eqb x.key i) (eqb x.key k) refl refl (newness_one m i k) p e
  where
    go : (b c : Bool) → eqb x.key i ≡ b → eqb x.key k ≡ c → (0 < newness m i → newness m i ≡ newness m k → i ≡ k) → 0 < pick b (suc (length m)) (newness m i) → pick b (suc (length m)) (newness m i) ≡ pick c (suc (length m)) (newness m k) → i ≡ k
    go true true hb hc ih q z = sym (eqb-true x.key i hb) ∙ eqb-true x.key k hc
    go true false hb hc ih q z = absurd (let y = newness_most m k in omega arith)
    go false true hb hc ih q z = absurd (let y = newness_most m i in omega arith)
    go false false hb hc ih q z = ih q z

-- ---- a step leads to no mapping, or to a newer one
pub data Onward (m : InverseCanon) (i j : ℕ) : Type 0 where
  ends : newness m j ≡ 0 → Onward m i j
  newer : newness m i < newness m j → Onward m i j

step_on : (m : InverseCanon) → Newer m → (i : ℕ) (q : Role) → lookup m i ≡ some q → Onward m i (role_id q)
unfolding lookup
step_on [] N i q h = absurd (false≢true (ap is_some h))
step_on (e ∷ m) N i q h = go (eqb e.key i) refl h (step_on m N.2 i q)
  where
    mine : e.value ≡ q → newness (e ∷ m) (role_id q) ≡ 0
    mine z = let k = N.1 in let n = free_newness m (role_id e.value) N.0 in rw (← z) (rw k n)

    later : (c : Bool) → eqb e.key i ≡ false → eqb e.key (role_id q) ≡ c → Onward m i (role_id q) → Onward (e ∷ m) i (role_id q)
    later true z hc o = newer (rw (z, hc) (let y = newness_most m i in omega arith))
    later false z hc (ends o) = ends (rw hc o)
    later false z hc (newer o) = newer (rw (z, hc) o)

    value_or : Role → Option Role → Role
    value_or d none = d
    value_or d (some r) = r

    go : (b : Bool) → eqb e.key i ≡ b → pick b (some e.value) (lookup m i) ≡ some q → (lookup m i ≡ some q → Onward m i (role_id q)) → Onward (e ∷ m) i (role_id q)
    go true hb z ih = ends (mine (ap (λ o. value_or e.value o) z))
    go false hb z ih = later (eqb e.key (role_id q)) hb refl (ih z)

-- an id is not met again
onward_apart : (m : InverseCanon) (i j : ℕ) → 0 < newness m i → Onward m i j → eqb i j ≡ false
onward_apart m i j p (ends z) = ne_eqb i j (λ e. absurd (let y : newness m i ≡ 0 = rw e z in omega arith))
onward_apart m i j p (newer z) = ne_eqb i j (λ e. absurd (let y : newness m i ≡ newness m j = ap (newness m) e in omega arith))

onward_trans : (m : InverseCanon) (i j : ℕ) (q r : Role) → lookup m j ≡ some r → Onward m i j → Onward m j (role_id q) → Onward m i (role_id q)
onward_trans m i j q r h (ends z) w = absurd (let k = newness_known m j r h in omega arith)
onward_trans m i j q r h (newer z) (ends w) = ends w
onward_trans m i j q r h (newer z) (newer w) = newer (omega arith)

not_met : (m : InverseCanon) → Newer m → (n i j : ℕ) → 0 < newness m i → Onward m i j → contains (ids_from m n j) i ≡ false
unfolding ids_from
not_met m N zero i j p o = refl
not_met m N (suc n) i j p o = go (lookup m j) refl (λ k. not_met m N n i k p)
  where
    go : (x : Option Role) → lookup m j ≡ x → ((k : ℕ) → Onward m i k → contains (ids_from m n k) i ≡ false) → contains (and_on (λ k. ids_from m n k) x) i ≡ false
    go none h ih = refl
    go (some q) h ih = let w = onward_trans m i j q q h o (step_on m N j q h) in rw (onward_apart m i (role_id q) p w) (ih (role_id q) w)

-- ---- the Rust's map
module _ (l : List Axiom) where
  abbrev rust : InverseCanon
  rust = build_inverse_canon l

  rust_newer : Newer rust
  rust_newer = build_newer [] l tt

  -- no id is on a ring
  never_back : (n i : ℕ) → contains (ids_from rust n i) i ≡ false
  unfolding ids_from
  never_back zero i = refl
  never_back (suc n) i = go (lookup rust i) refl
    where
      go : (x : Option Role) → lookup rust i ≡ x → contains (and_on (λ k. ids_from rust n k) x) i ≡ false
      go none h = refl
      go (some q) h =
          let p = newness_known rust i q h in
          let w = step_on rust rust_newer i q h in
          rw (onward_apart rust i (role_id q) p w) (not_met rust rust_newer n i (role_id q) p w)

  -- so a role stays exactly where no mapping is left
  pub stays_free : (i : ℕ) → stays rust i ≡ not (is_some (lookup rust i))
  stays_free i = rw (never_back (length rust) i) (go (not (is_some (lookup rust i))))
    where
      go : (b : Bool) → b || (false && all (leb i) (ring_from rust i)) ≡ b
      go true = refl
      go false = refl

  pub step_onward : (r : Role) → Onward rust (role_id r) (role_id (canon_role rust r))
  unfolding canon_role
  step_onward r = go (lookup rust (role_id r)) refl
    where
      turned : (b : Bool) (q : Role) → Onward rust (role_id r) (role_id q) → Onward rust (role_id r) (role_id (pick b (flipped q) q))
      turned true q o = rw (flip_id q) o
      turned false q o = o

      go : (x : Option Role) → lookup rust (role_id r) ≡ x → Onward rust (role_id r) (role_id (canon_role rust r))
      go none h = rw h (ends (free_newness rust (role_id r) h))
      go (some q) h = rw h (turned (is_inverse r) q (step_on rust rust_newer (role_id r) q h))

  -- and that is where following ends
  ends_by : (n : ℕ) (r : Role) → length rust < n + newness rust (role_id r) → lookup rust (role_id (follow_by n rust r)) ≡ none
  unfolding follow_by
  ends_by zero r h = absurd (let q = newness_most rust (role_id r) in omega arith)
  ends_by (suc n) r h = rw (stays_free (role_id r)) (go (lookup rust (role_id r)) refl (step_onward r) (ends_by n (canon_role rust r)))
    where
      Ends : Option Role → Type 0
      Ends o = lookup rust (role_id (pick (not (is_some o)) r (follow_by n rust (canon_role rust r)))) ≡ none

      go : (o : Option Role) → lookup rust (role_id r) ≡ o → Onward rust (role_id r) (role_id (canon_role rust r))
          → (length rust < n + newness rust (role_id (canon_role rust r)) → lookup rust (role_id (follow_by n rust (canon_role rust r))) ≡ none) → Ends o
      go none e o ih = e
      go (some q) e (ends o) ih = let z = newness_free rust (role_id (canon_role rust r)) o in rw (follow_free n rust (canon_role rust r) z) z
      go (some q) e (newer o) ih = ih (omega arith)

  follow_ends : (r : Role) → lookup rust (role_id (follow rust r)) ≡ none
  follow_ends r = go (lookup rust (role_id r)) refl
    where
      go : (o : Option Role) → lookup rust (role_id r) ≡ o → lookup rust (role_id (follow rust r)) ≡ none
      go none e = rw (follow_free (length rust) rust r e) e
      go (some q) e = ends_by (length rust) r (let p = newness_known rust (role_id r) q e in omega arith)

  -- a step does not change where it ends
  pub follow_on : (r : Role) → follow rust (canon_role rust r) ≡ follow rust r
  unfolding follow_by
  follow_on r = go (lookup rust (role_id r)) refl (follow_more (length rust) rust r (follow_ends r)) (stays_free (role_id r))
    where
      go : (o : Option Role) → lookup rust (role_id r) ≡ o → follow_by (suc (length rust)) rust r ≡ follow rust r → stays rust (role_id r) ≡ not (is_some (lookup rust (role_id r))) → follow rust (canon_role rust r) ≡ follow rust r
      go none e m s = ap (follow rust) (step_free rust r e)
      go (some q) e m s = let z : stays rust (role_id r) ≡ false = s ∙ ap (λ o. not (is_some o)) e in rw (← m, z) refl

pub no_ring : NoRing
no_ring axioms n i = never_back axioms n i

pub followed_to_the_end : FollowedToTheEnd
followed_to_the_end axioms r = follow_ends axioms r
