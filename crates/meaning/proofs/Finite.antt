-- A finite interpretation is a world: the elements are the numbers below its size, and at least n of them satisfy p where the
-- count says so. Concepts mean the same in both, and axioms are satisfied in both or in neither; so what holds in every world
-- holds in every finite interpretation. Assumes nothing.
use Rattle.std.specs.Prelude.{◌≡◌, Bool, true, false, not, ◌&&◌, ◌||◌, ℕ, zero, suc, ◌+◌, ◌<◌, ◌≤◌, length, eqb, ltb, leb}
use Rattle.std.proofs.Math.Path.{refl, ap, fun_ext}
use Rattle.std.proofs.Common.{sym, ap₂, ◌∙◌, subst, not-suc-le-zero, zero-add, arith}
use Rattle.std.proofs.lemmas.Bool.{false≢true}
use mathlib.Core.List.{List, [], ◌∷◌, ◌++◌, map}
use Rattle.std.proofs.Math.Decide.{ℕ_discrete}
use borrow.Author.Tests.{ltb-true, lt-ltb, leb-true, le-leb, eqb-true, eq-eqb, ne_eqb, not-true}
use Rattle.std.proofs.Math.Dec.{leb-zero, leb-suc-zero, leb-suc-suc}
use Rattle.ir.specs.Roles.{role_code}
use Rattle.ir.specs.declared.role.Role.{Role}
use Rattle.rules.specs.Base.{Res, all, any}
use Rattle.rules.specs.Concept.{Concept, Axiom}
use Rattle.rules.specs.Concept.{Top, Bot, Atomic, Nominal, SelfRestriction, Not, And, Or, Some, All, Min, Max}
use Rattle.rules.specs.Concept.{SubClassOf, EquivalentClasses, DisjointClasses, DisjointUnion, ObjectPropertyDomain, ObjectPropertyRange, SubChain, TransitiveRole, IrreflexiveRole, AsymmetricRole, DisjointObjectProperties, InverseObjectProperties, SubObjectPropertyOf, EquivalentObjectProperties, ReflexiveRole, ClassAssertion}
use Rattle.rules.specs.Pool.{Pool, at, intern_raw, mk_and, mk_or}
use Rattle.rules.specs.Normalize.{St, push_negation_in}
use Rattle.rules.specs.Run.{nnf_axioms}
use Rattle.rules.specs.Post.{Post, post_map}
use Rattle.rules.specs.LinedPost.{LinedPost, lined_map}
use Rattle.rules.specs.Axioms.{later_pairs}
use Rattle.rules.specs.Invariants.{Each, Bounds, Wf, Grown, Made, AxiomIn}
use Rattle.rules.specs.Semantics.{Interpretation, elements_below, elements, one, count, implies, same_truth, related, every_element, every_pair, disjoint_at, chain_related, roles_clash, satisfied}
use Rattle.rules.specs.Semantics.{concept_means as finite_concept_means, meanings_from as finite_meanings_from, means as finite_means}
use Rattle.rules.specs.Statements.{FiniteInterpretationsAreWorlds, FiniteNormalFormKeepsMeaning}
use Rattle.meaning.specs.Finite.{counts}
use Rattle.meaning.specs.Truth.{and_unit, and_left, and_right, and_both, implies_elim, implies_intro, same_truth_lem, truth_same, both_ways, by_truth, all_elements, elements_all, count_same, any_at, any_find, not_and_not}
use Rattle.meaning.specs.Joints.{not_any}
use Rattle.rules.specs.Worlds.{Different, Many, World, concept_means, meaning_at, meanings_from, means, EveryElement, EveryPair, EveryTwo, DisjointAt, Chain, RolesApart, Satisfied, Same, EachSame}
use Rattle.meaning.specs.AxiomMeans.{same_refl, same_trans, same_by, satisfied_grown as world_satisfied_grown}
use Rattle.meaning.specs.Meanings.{means_grown as world_means_grown, means_at as world_means_at}
use Rattle.meaning.specs.PoolMeans.{MadeAs as WorldMadeAs, intern_means as world_intern_means, and_means as world_and_means, or_means as world_or_means}
use Rattle.meaning.specs.NormalForm.{negation_means as world_negation_means, nnf_axioms_mean as world_nnf_axioms_mean, normal_form_keeps_meaning}

-- ---- counting
-- without one that counts, one less
count_less : (p : ℕ → Bool) (x n : ℕ) → x < n → p x ≡ true → count p (elements_below n) ≡ suc (count (λ y. p y && not (eqb y x)) (elements_below n))
unfolding elements_below
count_less p x zero h k = absurd (not-suc-le-zero h)
count_less p x (suc n) h k = go (ℕ_discrete x n) (count_less p x n)
  where
    rest : (b d : Bool) → b ≡ d → (i j : ℕ) → i ≡ suc j → one b + i ≡ suc (one d + j)
    rest b d e i j q = rw (e, q) (omega arith)

    go : Dec (x ≡ n) → (x < n → p x ≡ true → count p (elements_below n) ≡ suc (count (λ y. p y && not (eqb y x)) (elements_below n)))
        → one (p n) + count p (elements_below n) ≡ suc (one (p n && not (eqb n x)) + count (λ y. p y && not (eqb y x)) (elements_below n))
    go (yes e) r =
        let same : count p (elements_below n) ≡ count (λ y. p y && not (eqb y x)) (elements_below n) =
        count_same n p (λ y. p y && not (eqb y x)) (λ y l. rw (ne_eqb y x (λ q. absurd (omega arith))) (sym (and_unit (p y)))) in
        here (p n) (eqb n x) (ap p (sym e) ∙ k) (eq-eqb n x (sym e)) (count p (elements_below n)) (count (λ y. p y && not (eqb y x)) (elements_below n)) same
      where
        here : (a b : Bool) → a ≡ true → b ≡ true → (i j : ℕ) → i ≡ j → one a + i ≡ suc (one (a && not b) + j)
        here a b ea eb i j q = rw (ea, eb, q) (omega arith)
    go (no e) r = rest (p n) (p n && not (eqb n x)) (rw (ne_eqb n x (λ q. e (sym q))) (sym (and_unit (p n)))) (count p (elements_below n)) (count (λ y. p y && not (eqb y x)) (elements_below n)) (r (omega arith) k)

-- different elements that satisfy p are at most as many as the count
apart : (p : ℕ → Bool) (x : ℕ) (l : List ℕ) → Each (λ y. (x ≡ y) → ⊥) l → Each (λ y. p y ≡ true) l → Each (λ y. p y && not (eqb y x) ≡ true) l
apart p x [] h k = tt
apart p x (y ∷ l) h k = (and_both k.0 (ap not (ne_eqb y x (λ q. h.0 (sym q)))), apart p x l h.1 k.1)

pub fits : (n : ℕ) (p : ℕ → Bool) (l : List ℕ) → Different l → Each (λ x. ltb x n ≡ true) l → Each (λ x. p x ≡ true) l → length l ≤ count p (elements_below n)
fits n p [] d b s = omega arith
fits n p (x ∷ l) d b s =
    omega (arith, fits n (λ y. p y && not (eqb y x)) l d.1 b.1 (apart p x l d.0 s.1), count_less p x n (ltb-true x n b.0) s.0)

-- and as many as the count can be listed
more : (n : ℕ) (l : List ℕ) → Each (λ x. ltb x n ≡ true) l → Each (λ x. ltb x (suc n) ≡ true) l
more n [] h = tt
more n (x ∷ l) h = (lt-ltb x (suc n) (omega (arith, ltb-true x n h.0)), more n l h.1)

above : (n : ℕ) (l : List ℕ) → Each (λ x. ltb x n ≡ true) l → Each (λ x. (n ≡ x) → ⊥) l
above n [] h = tt
above n (x ∷ l) h = (λ e. absurd (omega (arith, ltb-true x n h.0, e)), above n l h.1)

pub listed : (p : ℕ → Bool) (n k : ℕ) → k ≤ count p (elements_below n) → Many (λ x. ltb x n) k p
unfolding elements_below
listed p zero zero h = record { those = []; number = refl; different = tt; elements = tt; satisfy = tt }
listed p zero (suc k) h = absurd (not-suc-le-zero h)
listed p (suc n) zero h = record { those = []; number = refl; different = tt; elements = tt; satisfy = tt }
listed p (suc n) (suc k) h = by_truth (p n)
    (λ e. let t = listed p n k (with_it (p n) e (count p (elements_below n)) h) in record {
      those = n ∷ t.those;
      number = ap suc t.number;
      different = (above n t.those t.elements, t.different);
      elements = (lt-ltb n (suc n) (omega arith), more n t.those t.elements);
      satisfy = (e, t.satisfy);
    })
    (λ e. let t = listed p n (suc k) (without (p n) e (count p (elements_below n)) h) in record {
      those = t.those;
      number = t.number;
      different = t.different;
      elements = more n t.those t.elements;
      satisfy = t.satisfy;
    })
  where
    with_it : (b : Bool) → b ≡ true → (i : ℕ) → suc k ≤ one b + i → k ≤ i
    with_it true e i h = omega arith
    with_it false e i h = absurd (false≢true e)

    without : (b : Bool) → b ≡ false → (i : ℕ) → suc k ≤ one b + i → suc k ≤ i
    without true e i h = absurd (false≢true (sym e))
    without false e i h = omega arith

-- ---- the world
abbrev pub world_of : Interpretation → World ℕ
world_of I = record {
  element = λ x. ltb x I.size;
  class = I.class;
  role = I.role;
  individual = I.individual;
  same = eqb;
  same_equal = eqb-true;
  equal_same = λ x. eq-eqb x x refl;
  at_least = counts I;
  many_least = λ n p t. le-leb n (count p (elements I)) (subst (λ k. k ≤ count p (elements I)) t.number (fits I.size p t.those t.different t.elements t.satisfy));
  least_many = λ n p e none. none (listed p I.size n (leb-true n (count p (elements I)) e));
}

leb_negated : (a n : ℕ) → leb a n ≡ not (leb (suc n) a)
leb_negated zero n = rw (leb-zero n, leb-suc-zero n)
leb_negated (suc a) zero = rw (leb-suc-zero a, leb-suc-suc 0 a, leb-zero a)
leb_negated (suc a) (suc n) = leb-suc-suc a n ∙ leb_negated a n ∙ ap not (sym (leb-suc-suc (suc n) a))

module _ (I : Interpretation) where
  -- ---- concepts
  some_count : (f : ℕ → Bool) (l : List ℕ) → leb 1 (count f l) ≡ any f l
  some_count f [] = leb-suc-zero 0
  some_count f (x ∷ l) = go (f x) (some_count f l)
    where
      go : (b : Bool) → leb 1 (count f l) ≡ any f l → leb 1 (one b + count f l) ≡ b || any f l
      go true h = le-leb 1 (1 + count f l) (omega arith)
      go false h = ap (leb 1) (zero-add (count f l)) ∙ h

  all_count : (r f : ℕ → Bool) (l : List ℕ) → not (leb 1 (count (λ y. r y && not (f y)) l)) ≡ all (λ y. implies (r y) (f y)) l
  all_count r f l = ap not (some_count (λ y. r y && not (f y)) l) ∙ not_any (λ y. r y && not (f y)) l ∙ ap (λ g. all g l) (fun_ext (λ y. not_and_not (r y) (f y)))

  concept_finite : (m : ℕ → ℕ → Bool) (e : Concept) (x : ℕ) → concept_means (world_of I) m e x ≡ finite_concept_means I m e x
  concept_finite m Top x = refl
  concept_finite m Bot x = refl
  concept_finite m (Atomic a) x = refl
  concept_finite m (Nominal i) x = refl
  concept_finite m (SelfRestriction r) x = refl
  concept_finite m (Not c) x = refl
  concept_finite m (And l) x = refl
  concept_finite m (Or l) x = refl
  concept_finite m (Some r c) x = some_count (λ y. related I r x y && m c y) (elements I)
  concept_finite m (All r c) x = all_count (λ y. related I r x y) (m c) (elements I)
  concept_finite m (Min n r c) x = refl
  concept_finite m (Max n r c) x = sym (leb_negated (count (λ y. related I r x y && m c y) (elements I)) n)

  meanings_finite : (ms : List (ℕ → Bool)) (p : Pool) → meanings_from (world_of I) ms p ≡ finite_meanings_from I ms p
  unfolding meanings_from finite_meanings_from
  meanings_finite ms [] = refl
  meanings_finite ms (e ∷ p) =
      ap (λ f. meanings_from (world_of I) (ms ++ (f ∷ [])) p) (fun_ext (concept_finite (meaning_at ms) e))
      ∙ meanings_finite (ms ++ (finite_concept_means I (meaning_at ms) e ∷ [])) p

  -- a concept of a pool means the same in both
  pub means_finite : (p : Pool) → means (world_of I) p ≡ finite_means I p
  unfolding means finite_means
  means_finite p = ap meaning_at (meanings_finite [] p)

  -- ---- truth values
  implied : (P : Type 0) (a b : Bool) → Same P (a ≡ true) → Same (P → b ≡ true) (implies a b ≡ true)
  implied P a b h = record { there = λ f. implies_intro a b (λ e. f (h.back e)); back = λ e k. implies_elim a b e (h.there k) }

  implies_same : (a b : Bool) → Same (a ≡ true → b ≡ true) (implies a b ≡ true)
  implies_same a b = record { there = implies_intro a b; back = implies_elim a b }

  implies_twice : (a b c : Bool) → Same (a ≡ true → b ≡ true → c ≡ true) (implies (a && b) c ≡ true)
  implies_twice a b c = record {
    there = λ f. implies_intro (a && b) c (λ e. f (and_left a b e) (and_right a b e));
    back = λ e k l. implies_elim (a && b) c e (and_both k l);
  }

  equal_truth : (a b : Bool) → Same (a ≡ b) (same_truth a b ≡ true)
  equal_truth a b = record { there = truth_same a b; back = same_truth_lem a b }

  false_not : (a : Bool) → Same (a ≡ false) (not a ≡ true)
  false_not a = record { there = λ e. ap not e; back = not-true a }

  implies_not : (a b : Bool) → Same (a ≡ true → b ≡ false) (implies a (not b) ≡ true)
  implies_not a b = record { there = λ f. implies_intro a (not b) (λ e. ap not (f e)); back = λ e k. not-true b (implies_elim a (not b) e k) }

  unless : (a b : Bool) → Same (a ≡ false → b ≡ false) (not (not a && b) ≡ true)
  unless true b = record { there = λ f. refl; back = λ e k. absurd (false≢true (sym k)) }
  unless false b = record { there = λ f. ap not (f refl); back = λ e k. not-true b e }

  and_same : (P Q : Type 0) (a b : Bool) → Same P (a ≡ true) → Same Q (b ≡ true) → Same (P × Q) (a && b ≡ true)
  and_same P Q a b h k = record {
    there = λ t. and_both (h.there t.0) (k.there t.1);
    back = λ e. (h.back (and_left a b e), k.back (and_right a b e));
  }

  each_truth : {A : Type 0} (P : A → Type 0) (f : A → Bool) (l : List A) → ((a : A) → Same (P a) (f a ≡ true)) → Same (Each P l) (all f l ≡ true)
  each_truth P f [] h = record { there = λ t. refl; back = λ e. tt }
  each_truth P f (a ∷ l) h = and_same (P a) (Each P l) (f a) (all f l) (h a) (each_truth P f l h)

  -- ---- elements
  every_finite : (P : ℕ → Type 0) (f : ℕ → Bool) → ((x : ℕ) → Same (P x) (f x ≡ true)) → Same (EveryElement (world_of I) P) (every_element I f ≡ true)
  every_finite P f h = record {
    there = λ g. all_elements I.size f (λ y k. (h y).there (g y (lt-ltb y I.size k)));
    back = λ e x k. (h x).back (elements_all I.size f e x (ltb-true x I.size k));
  }

  pair_finite : (P : ℕ → ℕ → Type 0) (f : ℕ → ℕ → Bool) → ((x y : ℕ) → Same (P x y) (f x y ≡ true)) → Same (EveryPair (world_of I) P) (every_pair I f ≡ true)
  pair_finite P f h = every_finite (λ x. EveryElement (world_of I) (P x)) (λ x. every_element I (f x)) (λ x. every_finite (P x) (f x) (h x))

  disjoint_finite : (m : ℕ → ℕ → Bool) (l : List ℕ) (x : ℕ) → Same (DisjointAt m l x) (disjoint_at m l x ≡ true)
  disjoint_finite m l x = each_truth (λ q. m q.0 x && m q.1 x ≡ false) (λ q. not (m q.0 x && m q.1 x)) (later_pairs l) (λ q. false_not (m q.0 x && m q.1 x))

  chain_finite : (l : List Role) (x y : ℕ) → Same (Chain (world_of I) l x y) (chain_related I l x y ≡ true)
  unfolding chain_related
  chain_finite [] x y = record { there = eq-eqb x y; back = eqb-true x y }
  chain_finite (r ∷ l) x y = record {
    there = λ t. any_at I.size (λ z. related I r x z && chain_related I l z y) t.0 (ltb-true t.0 I.size t.1) (and_both t.2 ((chain_finite l t.0 y).there t.3));
    back = λ e. let t = any_find I.size (λ z. related I r x z && chain_related I l z y) e in
        (t.0, lt-ltb t.0 I.size t.1, and_left (related I r x t.0) (chain_related I l t.0 y) t.2, (chain_finite l t.0 y).back (and_right (related I r x t.0) (chain_related I l t.0 y) t.2));
  }

  -- ---- an axiom is satisfied in both or in neither
  module _ (p : Pool) where
    abbrev n : ℕ → ℕ → Bool
    n = finite_means I p

    pub satisfied_finite : (a : Axiom) → Same (Satisfied (world_of I) p a) (satisfied I p a ≡ true)
    satisfied_finite (SubClassOf sub sup) = same_trans
        (same_by (λ m. EveryElement (world_of I) (λ x. m sub x ≡ true → m sup x ≡ true)) (means_finite p))
        (every_finite (λ x. n sub x ≡ true → n sup x ≡ true) (λ x. implies (n sub x) (n sup x)) (λ x. implies_same (n sub x) (n sup x)))
    satisfied_finite (EquivalentClasses l) = same_trans
        (same_by (λ m. EveryElement (world_of I) (λ x. EveryTwo (λ c d. m c x ≡ m d x) l)) (means_finite p))
        (every_finite (λ x. EveryTwo (λ c d. n c x ≡ n d x) l) (λ x. all (λ q. same_truth (n q.0 x) (n q.1 x)) (later_pairs l))
        (λ x. each_truth (λ q. n q.0 x ≡ n q.1 x) (λ q. same_truth (n q.0 x) (n q.1 x)) (later_pairs l) (λ q. equal_truth (n q.0 x) (n q.1 x))))
    satisfied_finite (DisjointClasses l) = same_trans
        (same_by (λ m. EveryElement (world_of I) (λ x. DisjointAt m l x)) (means_finite p))
        (every_finite (λ x. DisjointAt n l x) (λ x. disjoint_at n l x) (disjoint_finite n l))
    satisfied_finite (DisjointUnion a l) = same_trans
        (same_by (λ m. EveryElement (world_of I) (λ x. (I.class a x ≡ any (λ c. m c x) l) × DisjointAt m l x)) (means_finite p))
        (every_finite (λ x. (I.class a x ≡ any (λ c. n c x) l) × DisjointAt n l x) (λ x. same_truth (I.class a x) (any (λ c. n c x) l) && disjoint_at n l x)
        (λ x. and_same (I.class a x ≡ any (λ c. n c x) l) (DisjointAt n l x) (same_truth (I.class a x) (any (λ c. n c x) l)) (disjoint_at n l x)
        (equal_truth (I.class a x) (any (λ c. n c x) l)) (disjoint_finite n l x)))
    satisfied_finite (ObjectPropertyDomain r c) = same_trans
        (same_by (λ m. EveryPair (world_of I) (λ x y. related I r x y ≡ true → m c x ≡ true)) (means_finite p))
        (pair_finite (λ x y. related I r x y ≡ true → n c x ≡ true) (λ x y. implies (related I r x y) (n c x)) (λ x y. implies_same (related I r x y) (n c x)))
    satisfied_finite (ObjectPropertyRange r c) = same_trans
        (same_by (λ m. EveryPair (world_of I) (λ x y. related I r x y ≡ true → m c y ≡ true)) (means_finite p))
        (pair_finite (λ x y. related I r x y ≡ true → n c y ≡ true) (λ x y. implies (related I r x y) (n c y)) (λ x y. implies_same (related I r x y) (n c y)))
    satisfied_finite (SubChain sup parts) = pair_finite (λ x y. Chain (world_of I) parts x y → related I sup x y ≡ true) (λ x y. implies (chain_related I parts x y) (related I sup x y))
        (λ x y. implied (Chain (world_of I) parts x y) (chain_related I parts x y) (related I sup x y) (chain_finite parts x y))
    satisfied_finite (TransitiveRole r) = every_finite
        (λ x. EveryPair (world_of I) (λ y z. related I r x y ≡ true → related I r y z ≡ true → related I r x z ≡ true))
        (λ x. every_pair I (λ y z. implies (related I r x y && related I r y z) (related I r x z)))
        (λ x. pair_finite (λ y z. related I r x y ≡ true → related I r y z ≡ true → related I r x z ≡ true) (λ y z. implies (related I r x y && related I r y z) (related I r x z))
        (λ y z. implies_twice (related I r x y) (related I r y z) (related I r x z)))
    satisfied_finite (IrreflexiveRole r) = every_finite (λ x. related I r x x ≡ false) (λ x. not (related I r x x)) (λ x. false_not (related I r x x))
    satisfied_finite (AsymmetricRole r) = pair_finite (λ x y. related I r x y ≡ true → related I r y x ≡ false) (λ x y. implies (related I r x y) (not (related I r y x)))
        (λ x y. implies_not (related I r x y) (related I r y x))
    satisfied_finite (DisjointObjectProperties l) = pair_finite (λ x y. EveryTwo (RolesApart (world_of I) x y) l) (λ x y. all (λ q. not (roles_clash I q x y)) (later_pairs l))
        (λ x y. each_truth (λ q. RolesApart (world_of I) x y q.0 q.1) (λ q. not (roles_clash I q x y)) (later_pairs l)
        (λ q. unless (eqb (role_code q.0) (role_code q.1)) (related I q.0 x y && related I q.1 x y)))
    satisfied_finite (InverseObjectProperties r s) = pair_finite (λ x y. related I r x y ≡ related I s y x) (λ x y. same_truth (related I r x y) (related I s y x))
        (λ x y. equal_truth (related I r x y) (related I s y x))
    satisfied_finite (SubObjectPropertyOf r s) = pair_finite (λ x y. related I r x y ≡ true → related I s x y ≡ true) (λ x y. implies (related I r x y) (related I s x y))
        (λ x y. implies_same (related I r x y) (related I s x y))
    satisfied_finite (EquivalentObjectProperties l) = pair_finite (λ x y. EveryTwo (λ r s. related I r x y ≡ related I s x y) l) (λ x y. all (λ q. same_truth (related I q.0 x y) (related I q.1 x y)) (later_pairs l))
        (λ x y. each_truth (λ q. related I q.0 x y ≡ related I q.1 x y) (λ q. same_truth (related I q.0 x y) (related I q.1 x y)) (later_pairs l)
        (λ q. equal_truth (related I q.0 x y) (related I q.1 x y)))
    satisfied_finite (ReflexiveRole r) = every_finite (λ x. related I r x x ≡ true) (λ x. related I r x x) (λ x. same_refl (related I r x x ≡ true))
    satisfied_finite (ClassAssertion c i) = same_by (λ m. m c (I.individual i) ≡ true) (means_finite p)

-- ---- so the statement about finite interpretations follows from that about worlds
module _ (I : Interpretation) (p q : Pool) where
  test_same : (a b : Axiom) → Same (Satisfied (world_of I) p a) (Satisfied (world_of I) q b) → satisfied I p a ≡ satisfied I q b
  test_same a b h = both_ways (satisfied I p a) (satisfied I q b)
      (λ e. (satisfied_finite I q b).there (h.there ((satisfied_finite I p a).back e))) (λ e. (satisfied_finite I p a).there (h.back ((satisfied_finite I q b).back e)))

  tests_same : (k l : List Axiom) → EachSame (Satisfied (world_of I) p) (Satisfied (world_of I) q) k l → map (satisfied I p) k ≡ map (satisfied I q) l
  tests_same [] [] h = refl
  tests_same [] (_ ∷ _) h = absurd h
  tests_same (_ ∷ _) [] h = absurd h
  tests_same (a ∷ k) (b ∷ l) h = ap₂ {C = List Bool} ◌∷◌ (test_same a b h.0) (tests_same k l h.1)

pub finite_interpretations_are_worlds : FiniteInterpretationsAreWorlds
finite_interpretations_are_worlds I =
    (world_of I, record { element = λ x. refl; class = refl; role = refl; individual = refl; means = means_finite I; satisfied = satisfied_finite I })

pub finite_normal_form_keeps_meaning : FiniteNormalFormKeepsMeaning
finite_normal_form_keeps_meaning deck d limit axioms s fine run I =
    tests_same I s.pool d.concepts axioms d.axioms (normal_form_keeps_meaning deck d limit axioms s fine run ℕ (world_of I))

-- ---- and so do the laws of pools, of And and Or, and of normal form
pub record MadeAs (I : Interpretation) (B : Bounds) (p : Pool) (f : ℕ → Bool) (i : ℕ) (q : Pool) : Type 0 where
  pub made : Made B p i q
  pub meaning : finite_means I q i ≡ f

module _ (I : Interpretation) where
  id_finite : (p : Pool) (c : ℕ) → means (world_of I) p c ≡ finite_means I p c
  id_finite p c = ap (λ m. m c) (means_finite I p)

  pub means_grown : {p q : Pool} → Grown p q → (c : ℕ) → c < length p → finite_means I q c ≡ finite_means I p c
  means_grown {p} {q} g c h = sym (id_finite q c) ∙ world_means_grown (world_of I) g c h ∙ id_finite p c

  pub means_at : (B : Bounds) (p : Pool) → Wf B p → (c : ℕ) → c < length p → finite_means I p c ≡ finite_concept_means I (finite_means I p) (at p c)
  means_at B p w c h =
      sym (id_finite p c) ∙ world_means_at (world_of I) B p w c h ∙ ap (λ m. concept_means (world_of I) m (at p c)) (means_finite I p)
      ∙ fun_ext (concept_finite I (finite_means I p) (at p c))

  made_finite : {S : Type 0} {B : Bounds} {p : Pool} {f g : ℕ → Bool} {pool : S → Pool} {r : Res S ℕ} → f ≡ g
      → Post (λ i t. WorldMadeAs (world_of I) B p f i (pool t)) r → Post (λ i t. MadeAs I B p g i (pool t)) r
  made_finite {pool = pool} e h = post_map h (λ i t A. record { made = A.made; meaning = sym (id_finite (pool t) i) ∙ A.meaning ∙ e })

  pub atomic_means : (B : Bounds) (p : Pool) → Wf B p → (a : ℕ) → a < B.classes → Post (MadeAs I B p (I.class a)) (intern_raw (Atomic a) p)
  atomic_means B p w a h = made_finite {pool = λ q. q} refl (world_intern_means (world_of I) B p w (Atomic a) h)

  pub and_means : (B : Bounds) (p : Pool) → Wf B p → (args : List ℕ) → Each (λ a. a < length p) args → Post (MadeAs I B p (λ x. all (λ c. finite_means I p c x) args)) (mk_and args p)
  and_means B p w args h = made_finite {pool = λ q. q} (ap (λ m x. all (λ c. m c x) args) (means_finite I p)) (world_and_means (world_of I) B p w args h)

  pub or_means : (B : Bounds) (p : Pool) → Wf B p → (args : List ℕ) → Each (λ a. a < length p) args → Post (MadeAs I B p (λ x. any (λ c. finite_means I p c x) args)) (mk_or args p)
  or_means B p w args h = made_finite {pool = λ q. q} (ap (λ m x. any (λ c. m c x) args) (means_finite I p)) (world_or_means (world_of I) B p w args h)

  pub negation_means : (B : Bounds) (f c : ℕ) (s : St) → Wf B s.pool → c < length s.pool → c < f
      → Post (λ i t. MadeAs I B s.pool (λ x. not (finite_means I s.pool c x)) i t.pool) (push_negation_in f c s)
  negation_means B f c s w h k = made_finite {pool = λ t. t.pool} (ap (λ m x. not (m c x)) (means_finite I s.pool)) (world_negation_means (world_of I) B f c s w h k)

  pub satisfied_grown : (B : Bounds) {p q : Pool} → Grown p q → (a : Axiom) → AxiomIn B (length p) a → satisfied I q a ≡ satisfied I p a
  satisfied_grown B {p} {q} g a h = test_same I q p a a (world_satisfied_grown (world_of I) B g a h)

  pub nnf_axioms_mean : (B : Bounds) (line : ℕ) (l : List Axiom) (s : St) → Wf B s.pool → Each (AxiomIn B (length s.pool)) l
      → LinedPost (λ k t. Grown s.pool t.pool × (map (satisfied I t.pool) k ≡ map (satisfied I s.pool) l)) (nnf_axioms line l s)
  nnf_axioms_mean B line l s w h = lined_map (world_nnf_axioms_mean (world_of I) B line l s w h) (λ k t D. (D.0, tests_same I t.pool s.pool k l D.1))
