-- The normal form of an axiom, over the numbers of its line: a before its concepts, the concepts l, and z after them. Assumes
-- nothing.
use Rattle.std.specs.Prelude.{◌≡◌, true, ℕ, ◌+◌, ◌-◌, ◌<◌, get_or}
use Rattle.std.proofs.Math.Path.{refl, ap}
use Rattle.std.proofs.Common.{sym, ◌∙◌, arith, length-append}
use mathlib.Core.List.{List, [], ◌∷◌, ◌++◌, append-nil}
use Prim.{tt}
use borrow.Author.Tests.{eqb-true}
use Rattle.std.proofs.Math.ListN.{length}
use Rattle.rules.specs.Base.{Res, ok, refused, then, each}
use Rattle.rules.specs.Concept.{SubClassOf, EquivalentClasses, DisjointClasses, DisjointUnion, ObjectPropertyDomain, ObjectPropertyRange, ClassAssertion}
use Rattle.rules.specs.Deck.{section_of, fields_ok, axiom_of}
use Rattle.rules.specs.Normalize.{St, N, nnf, nnf_axiom}
use Rattle.rules.specs.Invariants.{Each, Bounds, AxiomIn}
use Rattle.ir.specs.Roles.{role_of}
use Rattle.deck.proofs.KindLaws.{axiom_kinds}
use Rattle.normalize.specs.Axioms.{first_concept, concept_count}

-- the numbers of a line of kind k, in three
pub record Row (k : ℕ) (a l z : List ℕ) : Type 0 where
  pub fields : fields_ok k (length (a ++ (l ++ z))) ≡ true
  pub first : length a ≡ first_concept k
  pub count : length l ≡ concept_count k (length (a ++ (l ++ z)))

-- ---- lists by their lengths
module _ (P : List ℕ → Type 0) where
  by_none : P [] → (l : List ℕ) → length l ≡ 0 → P l
  by_none h [] e = h
  by_none h (x ∷ l) e = absurd (omega arith)

by_one : (P : List ℕ → Type 0) → ((x : ℕ) → P (x ∷ [])) → (l : List ℕ) → length l ≡ 1 → P l
by_one P h [] e = absurd (omega arith)
by_one P h (x ∷ l) e = by_none (λ l. P (x ∷ l)) (h x) l (omega arith)

by_two : (P : List ℕ → Type 0) → ((x y : ℕ) → P (x ∷ y ∷ [])) → (l : List ℕ) → length l ≡ 2 → P l
by_two P h [] e = absurd (omega arith)
by_two P h (x ∷ l) e = by_one (λ l. P (x ∷ l)) (h x) l (omega arith)

-- ---- one concept, two, and a list of them
module _ {A : Type 0} where
  of_one : (g : ℕ → A) (h : List ℕ → A) → ((x : ℕ) → g x ≡ h (x ∷ [])) → (m : Res St ℕ)
      → then m (λ x t. ok (g x) t) ≡ then (then m (λ x t. then (ok [] t) (λ k u. ok (x ∷ k) u))) (λ k t. ok (h k) t)
  of_one g h e (ok x t) = ap (λ (a : A). ok a t) (e x)
  of_one g h e (refused n) = refl

  of_two : (g : ℕ → ℕ → A) (h : List ℕ → A) → ((x y : ℕ) → g x y ≡ h (x ∷ y ∷ [])) → (m : Res St ℕ) (f : N ℕ)
      → then m (λ x t. then (f t) (λ y u. ok (g x y) u))
      ≡ then (then m (λ x t. then (then (f t) (λ y u. then (ok [] u) (λ k v. ok (y ∷ k) v))) (λ k u. ok (x ∷ k) u))) (λ k t. ok (h k) t)
  of_two g h e (ok x t) f = second (f t)
    where
      second : (m : Res St ℕ) → then m (λ y u. ok (g x y) u) ≡ then (then (then m (λ y u. then (ok [] u) (λ k v. ok (y ∷ k) v))) (λ k u. ok (x ∷ k) u)) (λ k t. ok (h k) t)
      second (ok y u) = ap (λ (a : A). ok a u) (e x y)
      second (refused n) = refl
  of_two g h e (refused n) f = refl

  of_list : (g h : List ℕ → A) → ((k : List ℕ) → g k ≡ h k) → (m : Res St (List ℕ)) → then m (λ k t. ok (g k) t) ≡ then m (λ k t. ok (h k) t)
  of_list g h e (ok k t) = ap (λ (a : A). ok a t) (e k)
  of_list g h e (refused n) = refl

-- what is claimed of a line of kind k
abbrev Claim : St → ℕ → Type 0
Claim s k = (a l z : List ℕ) → Row k a l z → nnf_axiom (axiom_of k (a ++ (l ++ z))) s ≡ then (each nnf l s) (λ k' t. ok (axiom_of k (a ++ (k' ++ z))) t)

three_long : (a l z : List ℕ) → length (a ++ (l ++ z)) ≡ length a + (length l + length z)
three_long a l z = length-append a (l ++ z) ∙ ap (λ (n : ℕ). length a + n) (length-append l z)

-- a list that is the rest of the line
no_rest : (f : ℕ) (a l z : List ℕ) → length a ≡ f → length l ≡ length (a ++ (l ++ z)) - f → length z ≡ 0
no_rest f a l z e h = omega (arith, three_long a l z)

module _ (s : St) where
  sub_class : Claim s 21
  unfolding nnf_axiom axiom_of each
  sub_class a l z R =
      let e : length (a ++ (l ++ z)) ≡ 3 = eqb-true (length (a ++ (l ++ z))) 3 R.fields in
      by_one (λ a. nnf_axiom (axiom_of 21 (a ++ (l ++ z))) s ≡ then (each nnf l s) (λ k t. ok (axiom_of 21 (a ++ (k ++ z))) t)) (λ x.
      by_two (λ l. nnf_axiom (axiom_of 21 (x ∷ (l ++ z))) s ≡ then (each nnf l s) (λ k t. ok (axiom_of 21 (x ∷ (k ++ z))) t)) (λ c d.
      of_two SubClassOf (λ k. axiom_of 21 (x ∷ (k ++ z))) (λ y w. refl) (nnf c s) (nnf d)) l (R.count ∙ ap (λ (n : ℕ). n - 1) e)) a R.first

  equivalent : Claim s 22
  unfolding nnf_axiom axiom_of
  equivalent a l z R =
      by_one (λ a. nnf_axiom (axiom_of 22 (a ++ (l ++ z))) s ≡ then (each nnf l s) (λ k t. ok (axiom_of 22 (a ++ (k ++ z))) t)) (λ x.
      by_none (λ z. nnf_axiom (axiom_of 22 (x ∷ (l ++ z))) s ≡ then (each nnf l s) (λ k t. ok (axiom_of 22 (x ∷ (k ++ z))) t))
      (ap (λ (q : List ℕ). nnf_axiom (EquivalentClasses q) s) (append-nil l) ∙ of_list EquivalentClasses (λ k. EquivalentClasses (k ++ [])) (λ k. ap EquivalentClasses (sym (append-nil k))) (each nnf l s))
      z (no_rest 1 a l z R.first R.count)) a R.first

  disjoint : Claim s 23
  unfolding nnf_axiom axiom_of
  disjoint a l z R =
      by_one (λ a. nnf_axiom (axiom_of 23 (a ++ (l ++ z))) s ≡ then (each nnf l s) (λ k t. ok (axiom_of 23 (a ++ (k ++ z))) t)) (λ x.
      by_none (λ z. nnf_axiom (axiom_of 23 (x ∷ (l ++ z))) s ≡ then (each nnf l s) (λ k t. ok (axiom_of 23 (x ∷ (k ++ z))) t))
      (ap (λ (q : List ℕ). nnf_axiom (DisjointClasses q) s) (append-nil l) ∙ of_list DisjointClasses (λ k. DisjointClasses (k ++ [])) (λ k. ap DisjointClasses (sym (append-nil k))) (each nnf l s))
      z (no_rest 1 a l z R.first R.count)) a R.first

  union : Claim s 24
  unfolding nnf_axiom axiom_of
  union a l z R =
      by_two (λ a. nnf_axiom (axiom_of 24 (a ++ (l ++ z))) s ≡ then (each nnf l s) (λ k t. ok (axiom_of 24 (a ++ (k ++ z))) t)) (λ x c.
      by_none (λ z. nnf_axiom (axiom_of 24 (x ∷ c ∷ (l ++ z))) s ≡ then (each nnf l s) (λ k t. ok (axiom_of 24 (x ∷ c ∷ (k ++ z))) t))
      (ap (λ (q : List ℕ). nnf_axiom (DisjointUnion c q) s) (append-nil l) ∙ of_list (DisjointUnion c) (λ k. DisjointUnion c (k ++ [])) (λ k. ap (DisjointUnion c) (sym (append-nil k))) (each nnf l s))
      z (no_rest 2 a l z R.first R.count)) a R.first

  domain : Claim s 25
  unfolding nnf_axiom axiom_of each
  domain a l z R =
      let e : length (a ++ (l ++ z)) ≡ 3 = eqb-true (length (a ++ (l ++ z))) 3 R.fields in
      by_two (λ a. nnf_axiom (axiom_of 25 (a ++ (l ++ z))) s ≡ then (each nnf l s) (λ k t. ok (axiom_of 25 (a ++ (k ++ z))) t)) (λ x r.
      by_one (λ l. nnf_axiom (axiom_of 25 (x ∷ r ∷ (l ++ z))) s ≡ then (each nnf l s) (λ k t. ok (axiom_of 25 (x ∷ r ∷ (k ++ z))) t)) (λ c.
      of_one (ObjectPropertyDomain (role_of r)) (λ k. axiom_of 25 (x ∷ r ∷ (k ++ z))) (λ y. refl) (nnf c s)) l (R.count ∙ ap (λ (n : ℕ). n - 2) e)) a R.first

  range : Claim s 26
  unfolding nnf_axiom axiom_of each
  range a l z R =
      let e : length (a ++ (l ++ z)) ≡ 3 = eqb-true (length (a ++ (l ++ z))) 3 R.fields in
      by_two (λ a. nnf_axiom (axiom_of 26 (a ++ (l ++ z))) s ≡ then (each nnf l s) (λ k t. ok (axiom_of 26 (a ++ (k ++ z))) t)) (λ x r.
      by_one (λ l. nnf_axiom (axiom_of 26 (x ∷ r ∷ (l ++ z))) s ≡ then (each nnf l s) (λ k t. ok (axiom_of 26 (x ∷ r ∷ (k ++ z))) t)) (λ c.
      of_one (ObjectPropertyRange (role_of r)) (λ k. axiom_of 26 (x ∷ r ∷ (k ++ z))) (λ y. refl) (nnf c s)) l (R.count ∙ ap (λ (n : ℕ). n - 2) e)) a R.first

  assertion : Claim s 36
  unfolding nnf_axiom axiom_of each
  assertion a l z R =
      let e : length (a ++ (l ++ z)) ≡ 3 = eqb-true (length (a ++ (l ++ z))) 3 R.fields in
      by_one (λ a. nnf_axiom (axiom_of 36 (a ++ (l ++ z))) s ≡ then (each nnf l s) (λ k t. ok (axiom_of 36 (a ++ (k ++ z))) t)) (λ x.
      by_one (λ l. nnf_axiom (axiom_of 36 (x ∷ (l ++ z))) s ≡ then (each nnf l s) (λ k t. ok (axiom_of 36 (x ∷ (k ++ z))) t)) (λ c.
      of_one (λ y. ClassAssertion y (get_or z 0 0)) (λ k. axiom_of 36 (x ∷ (k ++ z))) (λ y. refl) (nnf c s)) l R.count) a R.first

  -- an axiom that names no concept
  without : (k : ℕ) → ((r : List ℕ) → nnf_axiom (axiom_of k r) s ≡ ok (axiom_of k r) s) → concept_count k 0 ≡ 0 → ((n : ℕ) → concept_count k n ≡ concept_count k 0) → Claim s k
  unfolding each
  without k h e c a l z R = by_none (λ l. nnf_axiom (axiom_of k (a ++ (l ++ z))) s ≡ then (each nnf l s) (λ k' t. ok (axiom_of k (a ++ (k' ++ z))) t)) (h (a ++ z)) l (R.count ∙ c (length (a ++ (l ++ z))) ∙ e)

  pub nnf_row : (k : ℕ) → section_of k ≡ 4 → Claim s k
  unfolding nnf_axiom axiom_of
  nnf_row =
      axiom_kinds (Claim s) sub_class equivalent disjoint union domain range
      (without 27 (λ r. refl) refl (λ n. refl)) (without 28 (λ r. refl) refl (λ n. refl)) (without 29 (λ r. refl) refl (λ n. refl))
      (without 30 (λ r. refl) refl (λ n. refl)) (without 31 (λ r. refl) refl (λ n. refl)) (without 32 (λ r. refl) refl (λ n. refl))
      (without 33 (λ r. refl) refl (λ n. refl)) (without 34 (λ r. refl) refl (λ n. refl)) (without 35 (λ r. refl) refl (λ n. refl)) assertion

-- ---- the concepts of an axiom are inside the pool
module _ (B : Bounds) (n : ℕ) where
  abbrev Named : ℕ → Type 0
  Named k = (a l z : List ℕ) → Row k a l z → AxiomIn B n (axiom_of k (a ++ (l ++ z))) → Each (λ c. c < n) l

  named_two : Named 21
  unfolding axiom_of
  named_two a l z R =
      let e : length (a ++ (l ++ z)) ≡ 3 = eqb-true (length (a ++ (l ++ z))) 3 R.fields in
      by_one (λ a. AxiomIn B n (axiom_of 21 (a ++ (l ++ z))) → Each (λ c. c < n) l) (λ x.
      by_two (λ l. AxiomIn B n (axiom_of 21 (x ∷ (l ++ z))) → Each (λ c. c < n) l) (λ c d h. (h.0, (h.1, tt))) l (R.count ∙ ap (λ (n : ℕ). n - 1) e)) a R.first

  named_equivalent : Named 22
  unfolding axiom_of
  named_equivalent a l z R = by_one (λ a. AxiomIn B n (axiom_of 22 (a ++ (l ++ z))) → Each (λ c. c < n) l) (λ x.
      by_none (λ z. AxiomIn B n (axiom_of 22 (x ∷ (l ++ z))) → Each (λ c. c < n) l) (λ h. rw (append-nil l) at h) z (no_rest 1 a l z R.first R.count)) a R.first

  named_disjoint : Named 23
  unfolding axiom_of
  named_disjoint a l z R = by_one (λ a. AxiomIn B n (axiom_of 23 (a ++ (l ++ z))) → Each (λ c. c < n) l) (λ x.
      by_none (λ z. AxiomIn B n (axiom_of 23 (x ∷ (l ++ z))) → Each (λ c. c < n) l) (λ h. rw (append-nil l) at h) z (no_rest 1 a l z R.first R.count)) a R.first

  named_union : Named 24
  unfolding axiom_of
  named_union a l z R = by_two (λ a. AxiomIn B n (axiom_of 24 (a ++ (l ++ z))) → Each (λ c. c < n) l) (λ x y.
      by_none (λ z. AxiomIn B n (axiom_of 24 (x ∷ y ∷ (l ++ z))) → Each (λ c. c < n) l) (λ h. rw (append-nil l) at h.1) z (no_rest 2 a l z R.first R.count)) a R.first

  named_domain : Named 25
  unfolding axiom_of
  named_domain a l z R =
      let e : length (a ++ (l ++ z)) ≡ 3 = eqb-true (length (a ++ (l ++ z))) 3 R.fields in
      by_two (λ a. AxiomIn B n (axiom_of 25 (a ++ (l ++ z))) → Each (λ c. c < n) l) (λ x r.
      by_one (λ l. AxiomIn B n (axiom_of 25 (x ∷ r ∷ (l ++ z))) → Each (λ c. c < n) l) (λ c h. (h.1, tt)) l (R.count ∙ ap (λ (n : ℕ). n - 2) e)) a R.first

  named_range : Named 26
  unfolding axiom_of
  named_range a l z R =
      let e : length (a ++ (l ++ z)) ≡ 3 = eqb-true (length (a ++ (l ++ z))) 3 R.fields in
      by_two (λ a. AxiomIn B n (axiom_of 26 (a ++ (l ++ z))) → Each (λ c. c < n) l) (λ x r.
      by_one (λ l. AxiomIn B n (axiom_of 26 (x ∷ r ∷ (l ++ z))) → Each (λ c. c < n) l) (λ c h. (h.1, tt)) l (R.count ∙ ap (λ (n : ℕ). n - 2) e)) a R.first

  named_assertion : Named 36
  unfolding axiom_of
  named_assertion a l z R = by_one (λ a. AxiomIn B n (axiom_of 36 (a ++ (l ++ z))) → Each (λ c. c < n) l) (λ x.
      by_one (λ l. AxiomIn B n (axiom_of 36 (x ∷ (l ++ z))) → Each (λ c. c < n) l) (λ c h. (h.0, tt)) l R.count) a R.first

  named_none : (k : ℕ) → concept_count k 0 ≡ 0 → ((n : ℕ) → concept_count k n ≡ concept_count k 0) → Named k
  named_none k e c a l z R h = by_none (λ l. Each (λ c. c < n) l) tt l (R.count ∙ c (length (a ++ (l ++ z))) ∙ e)

  pub row_named : (k : ℕ) → section_of k ≡ 4 → Named k
  row_named =
      axiom_kinds Named named_two named_equivalent named_disjoint named_union named_domain named_range
      (named_none 27 refl (λ n. refl)) (named_none 28 refl (λ n. refl)) (named_none 29 refl (λ n. refl)) (named_none 30 refl (λ n. refl)) (named_none 31 refl (λ n. refl))
      (named_none 32 refl (λ n. refl)) (named_none 33 refl (λ n. refl)) (named_none 34 refl (λ n. refl)) (named_none 35 refl (λ n. refl)) named_assertion
