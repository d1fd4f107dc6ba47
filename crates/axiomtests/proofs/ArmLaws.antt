-- The sets that break an axiom, kind by kind: of what the code has read. Assumes nothing.
use Rattle.std.proofs.Math.Bool.{not-not}
use mathlib.Core.Path.{◌≡◌, refl, sym, ap, subst, ◌∙◌}
use mathlib.Core.Bool.{Bool, true, false, not, ◌&&◌, ◌||◌}
use mathlib.Core.List.{List, [], ◌∷◌, map}
use Prim.Native.Nat.{ℕ, ◌+◌, ◌*◌, ◌-◌, ◌<◌, ◌≤◌}
use lib.ListN.{length}
use borrow.Author.Tests.{eqb-true, leb-true}
use Rattle.ir.specs.Roles.{role_of, role_code, flipped, code_role, code_in}
use Rattle.ir.specs.declared.role.Role.{Role}
use Rattle.rules.specs.Base.{all}
use Rattle.rules.specs.Concept.{Concept, Axiom}
use Rattle.rules.specs.Concept.{SubClassOf, EquivalentClasses, DisjointClasses, DisjointUnion, ObjectPropertyDomain, ObjectPropertyRange, IrreflexiveRole, AsymmetricRole, DisjointObjectProperties, InverseObjectProperties, SubObjectPropertyOf, EquivalentObjectProperties, ReflexiveRole}
use Rattle.rules.specs.Axioms.{later_pairs}
use Rattle.rules.specs.Deck.{Known}
use Rattle.rules.specs.Invariants.{Each}
use Rattle.rules.specs.Semantics.{Interpretation, means, related, implies, same_truth, disjoint_at, roles_clash}
use Rattle.pool.specs.Layout.{run}
use Rattle.meaning.specs.Truth.{or_nots}
use Rattle.states.specs.Masks.{mask_of}
use Rattle.states.specs.MaskLaws.{mask_same, mask_empty}
use Rattle.states.specs.VerdictLaws.{all_eq}
use Rattle.sets.specs.Kept.{set_at}
use Rattle.sets.specs.Places.{concepts_at}
use Rattle.sets.specs.Laid.{row_of, Rows}
use Rattle.extents.specs.declared.Trial.{Trial}
use Rattle.axiomtests.specs.declared.members.Sets.{Sets}
use Rattle.ontology.specs.Rows.{row_axiom, row_number, sub_class_is, equivalent_is, disjoint_is, union_is, domain_is, range_is, irreflexive_is, asymmetric_is, disjoint_roles_is, inverse_is, sub_role_is, equivalent_roles_is, reflexive_is}
use Rattle.axiomtests.specs.Lines.{Line, breakers, breakers_behind}
use Rattle.axiomtests.specs.Lists.{numbers_of, Members, unlike_at, clash_at, clashes_at}
use Rattle.axiomtests.proofs.ListLaws.{all_paired, some_at, Both, Either}
use Rattle.axiomtests.proofs.RoleLaws.{turned_in, turned_related}
use Rattle.axiomtests.proofs.LineLaws.{arm_in, rows_of, concept_of_lem, row_of_lem, codes_of, concept_sets, row_sets, concepts_of, rows_in}

-- ---- what a call of `sets` says
abbrev pub Differ : ℕ → ℕ → ℕ → Type 0
Differ a b r = (n : ℕ) (f g : ℕ → Bool) → a ≡ mask_of n f → b ≡ mask_of n g → r ≡ mask_of n (λ x. not (same_truth (f x) (g x)))

abbrev pub Without : ℕ → ℕ → ℕ → Type 0
Without a b r = (n : ℕ) (f g : ℕ → Bool) → a ≡ mask_of n f → b ≡ mask_of n g → r ≡ mask_of n (λ x. f x && not (g x))

abbrev pub Unlike : List ℕ → Sets → ℕ → ℕ → Type 0
Unlike v l r n = (f : ℕ → ℕ → Bool) → Members n f v l → r ≡ mask_of n (λ x. unlike_at f (numbers_of v l) x)

abbrev pub Loops : List ℕ → ℕ → ℕ → ℕ → Type 0
Loops v size r code = (f : ℕ → ℕ → Bool) → Rows v code size f → r ≡ mask_of size (λ x. f x x)

-- ---- truth
pub not_implies : (a b : Bool) → a && not b ≡ not (implies a b)
not_implies true b = refl
not_implies false b = refl

both_breaks : (a b : Bool) → a && b ≡ not (implies a (not b))
both_breaks true true = refl
both_breaks true false = refl
both_breaks false b = refl

implied : (a : Bool) → not (implies a true) ≡ false
implied true = refl
implied false = refl

unless : (a : Bool) → not (implies a false) ≡ a
unless true = refl
unless false = refl

-- ---- pairs of a list of roles, by their codes
pairs_map : (p : Role × Role → Bool) (l : List ℕ) → all p (later_pairs (map role_of l)) ≡ all (λ q. p (role_of q.0, role_of q.1)) (later_pairs l)
unfolding later_pairs
pairs_map p [] = refl
pairs_map p (a ∷ l) =
    all_paired p (role_of a) (map role_of l) (later_pairs (map role_of l)) ∙ ap (λ b. b && all p (later_pairs (map role_of l))) (mapped l) ∙ ap (λ b. all (λ c. p (role_of a, role_of c)) l && b) (pairs_map p l)
    ∙ sym (all_paired (λ q. p (role_of q.0, role_of q.1)) a l (later_pairs l))
  where
    mapped : (k : List ℕ) → all (λ r. p (role_of a, r)) (map role_of k) ≡ all (λ c. p (role_of a, role_of c)) k
    mapped [] = refl
    mapped (c ∷ k) = ap (λ b. p (role_of a, role_of c) && b) (mapped k)

module _ (I : Interpretation) (x y : ℕ) (l : List ℕ) where
  clashes_roles : clashes_at false (λ c. related I (role_of c) x) l y ≡ not (all (λ q. not (roles_clash I q x y)) (later_pairs (map role_of l)))
  clashes_roles = ap not (all_eq (λ q. not (clash_at false (λ c. related I (role_of c) x) q.0 q.1 y)) (λ q. not (roles_clash I (role_of q.0, role_of q.1) x y)) (later_pairs l)
      (λ q. let a = code_role q.0 in let b = code_role q.1 in rw (a, b) refl) ∙ sym (pairs_map (λ q. not (roles_clash I q x y)) l))

  unlike_roles : unlike_at (λ c. related I (role_of c) x) l y ≡ not (all (λ q. same_truth (related I q.0 x y) (related I q.1 x y)) (later_pairs (map role_of l)))
  unlike_roles = ap not (sym (pairs_map (λ q. same_truth (related I q.0 x y) (related I q.1 x y)) l))

-- ---- the arms
-- a set that was found is that of the arm a
module _ (I : Interpretation) (p : List Concept) (v : List ℕ) (at count kind : ℕ) where
  done : (a : Axiom) (f : ℕ → Bool) → row_axiom v kind at count ≡ a → ((x : ℕ) → f x ≡ breakers I p a x) → mask_of I.size f ≡ mask_of I.size (breakers I p (row_axiom v kind at count))
  done a f e h = mask_same I.size f (breakers I p a) (λ x _. h x) ∙ ap (λ (b : Axiom). mask_of I.size (breakers I p b)) (sym e)

  behind : (x : ℕ) (a : Axiom) (f : ℕ → Bool) → row_axiom v kind at count ≡ a → ((y : ℕ) → f y ≡ breakers_behind I p a x y) → mask_of I.size f ≡ mask_of I.size (breakers_behind I p (row_axiom v kind at count) x)
  behind x a f e h = mask_same I.size f (breakers_behind I p a x) (λ y _. h y) ∙ ap (λ (b : Axiom). mask_of I.size (breakers_behind I p b x)) (sym e)

-- the loops of code c
loops_of : {d : Known} {I : Interpretation} {w v : List ℕ} {t : Trial} {kind at count : ℕ} → Line d I w v t kind at count → (a c r : ℕ) → a ≡ c → c < 2 * d.header.roles → Loops v t.size r a
    → r ≡ mask_of I.size (λ x. related I (role_of c) x x)
loops_of {d} {I} {w} {v} {t} L a c r e h E =
    let f = related I (role_of c) in
    let R : Rows v c t.size f = subst (λ (n : ℕ). Rows v c n f) (sym L.fits.size) (rows_of L c h) in
    subst (Loops v t.size r) e E f R ∙ ap (λ (n : ℕ). mask_of n (λ x. f x x)) L.fits.size

module _ {d : Known} {I : Interpretation} {w v : List ℕ} {t : Trial} {at count : ℕ} where
  module _ (L : Line d I w v t 21 at count) where
    sub_class_arm : row_axiom v 21 at count ≡ SubClassOf (row_number v at 1) (row_number v at 2)
    sub_class_arm = sub_class_is v at count (eqb-true count 3 L.fields)

    pub sub_class_in : (row_number v at 1 < length d.concepts) × (row_number v at 2 < length d.concepts)
    sub_class_in = arm_in L _ sub_class_arm

    pub sub_class_set : (a b i j r : ℕ) → a ≡ row_number v at 1 → b ≡ row_number v at 2 → i ≡ set_at v (concepts_at + a) → j ≡ set_at v (concepts_at + b) → Without i j r → r ≡ mask_of I.size (breakers I d.concepts (row_axiom v 21 at count))
    sub_class_set a b i j r ea eb ei ej W =
        W I.size (means I d.concepts (row_number v at 1)) (means I d.concepts (row_number v at 2)) (concept_of_lem L a _ i ea sub_class_in.0 ei) (concept_of_lem L b _ j eb sub_class_in.1 ej)
        ∙ done I d.concepts v at count 21 (SubClassOf (row_number v at 1) (row_number v at 2)) (λ x. means I d.concepts (row_number v at 1) x && not (means I d.concepts (row_number v at 2) x)) sub_class_arm (λ x. not_implies (means I d.concepts (row_number v at 1) x) (means I d.concepts (row_number v at 2) x))

  module _ (L : Line d I w v t 22 at count) where
    pub equivalent_in : Each (λ c. c < length d.concepts) (run v (at + 1) (count - 1))
    equivalent_in = arm_in L _ (equivalent_is v at count)

    pub equivalent_set : (r : ℕ) → Unlike v (concept_sets (at + 1) (count - 1)) r t.size → r ≡ mask_of I.size (breakers I d.concepts (row_axiom v 22 at count))
    equivalent_set r e = subst (Unlike v (concept_sets (at + 1) (count - 1)) r) L.fits.size e (means I d.concepts) (concepts_of L (at + 1) (count - 1) equivalent_in) ∙ done I d.concepts v at count 22 (EquivalentClasses (run v (at + 1) (count - 1))) (unlike_at (means I d.concepts) (run v (at + 1) (count - 1))) (equivalent_is v at count) (λ x. refl)

  module _ (L : Line d I w v t 23 at count) where
    pub disjoint_in : Each (λ c. c < length d.concepts) (run v (at + 1) (count - 1))
    disjoint_in = arm_in L _ (disjoint_is v at count)

    pub disjoint_set : (r : ℕ) → r ≡ mask_of I.size (λ x. clashes_at true (means I d.concepts) (run v (at + 1) (count - 1)) x) → r ≡ mask_of I.size (breakers I d.concepts (row_axiom v 23 at count))
    disjoint_set r e = e ∙ done I d.concepts v at count 23 (DisjointClasses (run v (at + 1) (count - 1))) (clashes_at true (means I d.concepts) (run v (at + 1) (count - 1))) (disjoint_is v at count) (λ x. refl)

  module _ (L : Line d I w v t 24 at count) where
    union_arm : row_axiom v 24 at count ≡ DisjointUnion (row_number v at 1) (run v (at + 2) (count - 2))
    union_arm = union_is v at count (leb-true 2 count L.fields)

    pub union_in : (row_number v at 1 < d.header.classes) × Each (λ c. c < length d.concepts) (run v (at + 2) (count - 2))
    union_in = arm_in L _ union_arm

    pub union_set : (a i u s k r : ℕ) → a ≡ row_number v at 1 → i ≡ set_at w a → 2 * row_number v at 1 + 2 ≤ length w → u ≡ mask_of I.size (some_at (means I d.concepts) (run v (at + 2) (count - 2))) → Differ i u s → k ≡ mask_of I.size (clashes_at true (means I d.concepts) (run v (at + 2) (count - 2))) → Either s k r
        → r ≡ mask_of I.size (breakers I d.concepts (row_axiom v 24 at count))
    union_set a i u s k r ea ei h eu D ek E =
        let l = run v (at + 2) (count - 2) in
        let c = I.class (row_number v at 1) in
        E I.size (λ x. not (same_truth (c x) (some_at (means I d.concepts) l x))) (clashes_at true (means I d.concepts) l) (D I.size c (some_at (means I d.concepts) l) (ei ∙ ap (set_at w) ea ∙ L.ready.laid.classes (row_number v at 1) h) eu) ek
        ∙ done I d.concepts v at count 24 (DisjointUnion (row_number v at 1) l) (λ x. not (same_truth (c x) (some_at (means I d.concepts) l x)) || clashes_at true (means I d.concepts) l x) union_arm (λ x. or_nots (same_truth (c x) (some_at (means I d.concepts) l x)) (disjoint_at (means I d.concepts) l x))

  module _ (L : Line d I w v t 29 at count) where
    irreflexive_arm : row_axiom v 29 at count ≡ IrreflexiveRole (role_of (row_number v at 1))
    irreflexive_arm = irreflexive_is v at count (eqb-true count 2 L.fields)

    pub irreflexive_in : row_number v at 1 < 2 * d.header.roles
    irreflexive_in = code_in (row_number v at 1) d.header.roles (arm_in L _ irreflexive_arm)

    pub irreflexive_set : (a r : ℕ) → a ≡ row_number v at 1 → Loops v t.size r a → r ≡ mask_of I.size (breakers I d.concepts (row_axiom v 29 at count))
    irreflexive_set a r ea e = loops_of L a (row_number v at 1) r ea irreflexive_in e ∙ done I d.concepts v at count 29 (IrreflexiveRole (role_of (row_number v at 1))) (λ x. related I (role_of (row_number v at 1)) x x) irreflexive_arm (λ x. sym (not-not (related I (role_of (row_number v at 1)) x x)))

  module _ (L : Line d I w v t 35 at count) where
    reflexive_arm : row_axiom v 35 at count ≡ ReflexiveRole (role_of (row_number v at 1))
    reflexive_arm = reflexive_is v at count (eqb-true count 2 L.fields)

    pub reflexive_in : row_number v at 1 < 2 * d.header.roles
    reflexive_in = code_in (row_number v at 1) d.header.roles (arm_in L _ reflexive_arm)

    pub reflexive_set : (a i j r : ℕ) → a ≡ row_number v at 1 → i ≡ mask_of t.size (λ _. true) → Loops v t.size j a → Without i j r → r ≡ mask_of I.size (breakers I d.concepts (row_axiom v 35 at count))
    reflexive_set a i j r ea ei ej W =
        W I.size (λ _. true) (λ x. related I (role_of (row_number v at 1)) x x) (ei ∙ ap (λ (m : ℕ). mask_of m (λ _. true)) L.fits.size) (loops_of L a (row_number v at 1) j ea reflexive_in ej) ∙ done I d.concepts v at count 35 (ReflexiveRole (role_of (row_number v at 1))) (λ x. true && not (related I (role_of (row_number v at 1)) x x)) reflexive_arm (λ x. refl)

  -- ---- two elements
  module _ (L : Line d I w v t 25 at count) where
    domain_arm : row_axiom v 25 at count ≡ ObjectPropertyDomain (role_of (row_number v at 1)) (row_number v at 2)
    domain_arm = domain_is v at count (eqb-true count 3 L.fields)

    pub domain_in : (row_number v at 1 < 2 * d.header.roles) × (row_number v at 2 < length d.concepts)
    domain_in = let h = arm_in L _ domain_arm in (code_in (row_number v at 1) d.header.roles h.0, h.1)

    -- x is in the domain, or is not
    pub domain_none : (x : ℕ) → means I d.concepts (row_number v at 2) x ≡ true → 0 ≡ mask_of I.size (breakers_behind I d.concepts (row_axiom v 25 at count) x)
    domain_none x h = sym (mask_empty I.size) ∙ behind I d.concepts v at count 25 x (ObjectPropertyDomain (role_of (row_number v at 1)) (row_number v at 2)) (λ _. false) domain_arm (λ y. rw h (sym (implied (related I (role_of (row_number v at 1)) x y))))

    pub domain_set : (x a r : ℕ) → means I d.concepts (row_number v at 2) x ≡ false → a ≡ row_number v at 1 → x < t.size → r ≡ row_of v a x → r ≡ mask_of I.size (breakers_behind I d.concepts (row_axiom v 25 at count) x)
    domain_set x a r h ea l e =
        row_of_lem L a _ x r ea domain_in.0 l e
        ∙ behind I d.concepts v at count 25 x (ObjectPropertyDomain (role_of (row_number v at 1)) (row_number v at 2)) (related I (role_of (row_number v at 1)) x) domain_arm (λ y. rw h (sym (unless (related I (role_of (row_number v at 1)) x y))))

  module _ (L : Line d I w v t 26 at count) where
    range_arm : row_axiom v 26 at count ≡ ObjectPropertyRange (role_of (row_number v at 1)) (row_number v at 2)
    range_arm = range_is v at count (eqb-true count 3 L.fields)

    pub range_in : (row_number v at 1 < 2 * d.header.roles) × (row_number v at 2 < length d.concepts)
    range_in = let h = arm_in L _ range_arm in (code_in (row_number v at 1) d.header.roles h.0, h.1)

    pub range_set : (x a b i j r : ℕ) → x < t.size → a ≡ row_number v at 1 → b ≡ row_number v at 2 → i ≡ row_of v a x → j ≡ set_at v (concepts_at + b) → Without i j r → r ≡ mask_of I.size (breakers_behind I d.concepts (row_axiom v 26 at count) x)
    range_set x a b i j r l ea eb ei ej W =
        let s = related I (role_of (row_number v at 1)) x in
        let c = means I d.concepts (row_number v at 2) in
        W I.size s c (row_of_lem L a _ x i ea range_in.0 l ei) (concept_of_lem L b _ j eb range_in.1 ej)
        ∙ behind I d.concepts v at count 26 x (ObjectPropertyRange (role_of (row_number v at 1)) (row_number v at 2)) (λ y. s y && not (c y)) range_arm (λ y. not_implies (s y) (c y))

  module _ (L : Line d I w v t 30 at count) where
    asymmetric_arm : row_axiom v 30 at count ≡ AsymmetricRole (role_of (row_number v at 1))
    asymmetric_arm = asymmetric_is v at count (eqb-true count 2 L.fields)

    pub asymmetric_in : row_number v at 1 < 2 * d.header.roles
    asymmetric_in = code_in (row_number v at 1) d.header.roles (arm_in L _ asymmetric_arm)

    pub asymmetric_set : (x a b i j r : ℕ) → x < t.size → a ≡ row_number v at 1 → b ≡ role_code (flipped (role_of a)) → i ≡ row_of v a x → j ≡ row_of v b x → Both i j r → r ≡ mask_of I.size (breakers_behind I d.concepts (row_axiom v 30 at count) x)
    asymmetric_set x a b i j r l ea eb ei ej W =
        let c = row_number v at 1 in
        let s = related I (role_of c) in
        let k = role_code (flipped (role_of c)) in
        W I.size (s x) (related I (role_of k) x) (row_of_lem L a c x i ea asymmetric_in l ei) (row_of_lem L b k x j (eb ∙ ap (λ (m : ℕ). role_code (flipped (role_of m))) ea) (turned_in c d.header.roles asymmetric_in) l ej)
        ∙ behind I d.concepts v at count 30 x (AsymmetricRole (role_of c)) (λ y. s x y && related I (role_of k) x y) asymmetric_arm (λ y. rw (turned_related I c x y) (both_breaks (s x y) (s y x)))

  module _ (L : Line d I w v t 31 at count) where
    pub disjoint_roles_in : Each (λ c. c < 2 * d.header.roles) (run v (at + 1) (count - 1))
    disjoint_roles_in = codes_of L (at + 1) (count - 1) (arm_in L _ (disjoint_roles_is v at count))

    pub disjoint_roles_set : (x r : ℕ) → r ≡ mask_of I.size (λ y. clashes_at false (λ c. related I (role_of c) x) (run v (at + 1) (count - 1)) y) → r ≡ mask_of I.size (breakers_behind I d.concepts (row_axiom v 31 at count) x)
    disjoint_roles_set x r e =
        let l = run v (at + 1) (count - 1) in
        e ∙ behind I d.concepts v at count 31 x (DisjointObjectProperties (map role_of l)) (clashes_at false (λ c. related I (role_of c) x) l) (disjoint_roles_is v at count) (λ y. clashes_roles I x y l)

  module _ (L : Line d I w v t 32 at count) where
    inverse_arm : row_axiom v 32 at count ≡ InverseObjectProperties (role_of (row_number v at 1)) (role_of (row_number v at 2))
    inverse_arm = inverse_is v at count (eqb-true count 3 L.fields)

    pub inverse_in : (row_number v at 1 < 2 * d.header.roles) × (row_number v at 2 < 2 * d.header.roles)
    inverse_in = let h = arm_in L _ inverse_arm in (code_in (row_number v at 1) d.header.roles h.0, code_in (row_number v at 2) d.header.roles h.1)

    pub inverse_set : (x a b c i j r : ℕ) → x < t.size → a ≡ row_number v at 1 → b ≡ row_number v at 2 → c ≡ role_code (flipped (role_of b)) → i ≡ row_of v a x → j ≡ row_of v c x → Differ i j r → r ≡ mask_of I.size (breakers_behind I d.concepts (row_axiom v 32 at count) x)
    inverse_set x a b c i j r l ea eb ec ei ej W =
        let e = row_number v at 1 in
        let f = row_number v at 2 in
        let k = role_code (flipped (role_of f)) in
        W I.size (related I (role_of e) x) (related I (role_of k) x) (row_of_lem L a e x i ea inverse_in.0 l ei) (row_of_lem L c k x j (ec ∙ ap (λ (m : ℕ). role_code (flipped (role_of m))) eb) (turned_in f d.header.roles inverse_in.1) l ej)
        ∙ behind I d.concepts v at count 32 x (InverseObjectProperties (role_of e) (role_of f)) (λ y. not (same_truth (related I (role_of e) x y) (related I (role_of k) x y))) inverse_arm (λ y. ap (λ b. not (same_truth (related I (role_of e) x y) b)) (turned_related I f x y))

  module _ (L : Line d I w v t 33 at count) where
    sub_role_arm : row_axiom v 33 at count ≡ SubObjectPropertyOf (role_of (row_number v at 1)) (role_of (row_number v at 2))
    sub_role_arm = sub_role_is v at count (eqb-true count 3 L.fields)

    pub sub_role_in : (row_number v at 1 < 2 * d.header.roles) × (row_number v at 2 < 2 * d.header.roles)
    sub_role_in = let h = arm_in L _ sub_role_arm in (code_in (row_number v at 1) d.header.roles h.0, code_in (row_number v at 2) d.header.roles h.1)

    pub sub_role_set : (x a b i j r : ℕ) → x < t.size → a ≡ row_number v at 1 → b ≡ row_number v at 2 → i ≡ row_of v a x → j ≡ row_of v b x → Without i j r → r ≡ mask_of I.size (breakers_behind I d.concepts (row_axiom v 33 at count) x)
    sub_role_set x a b i j r l ea eb ei ej W =
        let s = related I (role_of (row_number v at 1)) x in
        let c = related I (role_of (row_number v at 2)) x in
        W I.size s c (row_of_lem L a _ x i ea sub_role_in.0 l ei) (row_of_lem L b _ x j eb sub_role_in.1 l ej)
        ∙ behind I d.concepts v at count 33 x (SubObjectPropertyOf (role_of (row_number v at 1)) (role_of (row_number v at 2))) (λ y. s y && not (c y)) sub_role_arm (λ y. not_implies (s y) (c y))

  module _ (L : Line d I w v t 34 at count) where
    pub equivalent_roles_in : Each (λ c. c < 2 * d.header.roles) (run v (at + 1) (count - 1))
    equivalent_roles_in = codes_of L (at + 1) (count - 1) (arm_in L _ (equivalent_roles_is v at count))

    pub equivalent_roles_set : (x r : ℕ) → x < t.size → Unlike v (row_sets (at + 1) (count - 1) x) r t.size → r ≡ mask_of I.size (breakers_behind I d.concepts (row_axiom v 34 at count) x)
    equivalent_roles_set x r h e =
        let l = run v (at + 1) (count - 1) in
        subst (Unlike v (row_sets (at + 1) (count - 1) x) r) L.fits.size e (λ c. related I (role_of c) x) (rows_in L (at + 1) (count - 1) x h equivalent_roles_in) ∙ behind I d.concepts v at count 34 x (EquivalentObjectProperties (map role_of l)) (unlike_at (λ c. related I (role_of c) x) l) (equivalent_roles_is v at count) (λ y. unlike_roles I x y l)
