-- A chain and a transitive role, of what the code has read; an assertion. Assumes nothing.
use Rattle.std.proofs.lemmas.Bool.{not-true, not-false}
use mathlib.Core.Path.{◌≡◌, refl, sym, ap, subst, ◌∙◌}
use mathlib.Core.Bool.{Bool, true, false, not, ◌&&◌, false≢true}
use mathlib.Core.List.{List, [], ◌∷◌, map}
use mathlib.Core.Option.{Option, none, some}
use Prim.Native.Nat.{ℕ, suc, ◌+◌, ◌*◌, ◌-◌, ◌<◌, ◌≤◌}
use native.Mathlib.Omega.{arith}
use native.Mathlib.Nat.{one-mul, zero-mul}
use lib.ListN.{length, get_or}
use lib.Dec.{eqb}
use borrow.Author.Tests.{eqb-true, leb-true, eq-eqb, ne_eqb}
use Rattle.words.specs.Words.{words}
use Rattle.ir.specs.Pick.{pick}
use Rattle.ir.specs.Roles.{role_of, code_in}
use Rattle.ir.specs.Scratch.{lines_at}
use Rattle.ir.specs.declared.role.Role.{Role}
use Rattle.rules.specs.Base.{all}
use Rattle.rules.specs.Concept.{Concept, Axiom, SubChain, TransitiveRole, ClassAssertion}
use Rattle.rules.specs.Deck.{Known, most_listed}
use Rattle.rules.specs.DeckLaws.{axiom_width}
use Rattle.rules.specs.Invariants.{Each}
use Rattle.rules.specs.Semantics.{Interpretation, elements_below, means, related}
use Rattle.meaning.specs.Truth.{by_truth, both_ways, all_elements, elements_all, implies_both}
use Rattle.pool.specs.Layout.{tab, run}
use Rattle.pool.specs.Tabs.{tab_each, tab_same, map_tab}
use Rattle.states.specs.Conditions.{rises, least_of, place, chain_at, axiom_holds_at, axiom_broken}
use Rattle.states.specs.LeastLaws.{all_rising}
use Rattle.states.specs.SearchLaws.{least_same}
use Rattle.states.specs.Masks.{mask_of, mask_none}
use Rattle.states.specs.MaskLaws.{mask_same}
use Rattle.sets.specs.Kept.{set_at}
use Rattle.sets.specs.Places.{concepts_at}
use Rattle.extents.specs.declared.Trial.{Trial}
use Rattle.axiomtests.specs.declared.chains.Chain.{Chain}
use Rattle.ontology.specs.Rows.{row_axiom, row_number, chain_is, transitive_is, assertion_is}
use Rattle.axiomtests.specs.Lines.{Line, LineIn}
use Rattle.axiomtests.specs.Chains.{part_code, parts_of, RowsOf, Chained, ChainIn}
use Rattle.axiomtests.proofs.LineLaws.{few_elements, arm_in, rows_of, code_small, codes_of, concept_of_lem}
use Rattle.axiomtests.proofs.ListLaws.{Both}
use Rattle.axiomtests.proofs.PathLaws.{length_parts}

-- ---- a chain of `count - 2` parts
abbrev pub chain_of : (size sup at count : ℕ) → Chain
chain_of size sup at count = record { size = size; sup = sup; at = at + 2; step = 1; parts = count - 2 }

module _ {d : Known} {I : Interpretation} {w v : List ℕ} {t : Trial} {at count : ℕ} (L : Line d I w v t 27 at count) (sup : ℕ) (e : sup ≡ row_number v at 1) where
  two : 2 ≤ count
  two = leb-true 2 count L.fields

  chain_arm : row_axiom v 27 at count ≡ SubChain (role_of (row_number v at 1)) (map role_of (run v (at + 2) (count - 2)))
  chain_arm = chain_is v at count two

  sup_in : row_number v at 1 < 2 * d.header.roles
  sup_in = code_in (row_number v at 1) d.header.roles (arm_in L _ chain_arm).0

  parts_in : Each (λ c. c < 2 * d.header.roles) (run v (at + 2) (count - 2))
  parts_in = codes_of L (at + 2) (count - 2) (arm_in L _ chain_arm).1

  code_is_lem : (j : ℕ) → part_code v (chain_of t.size sup at count) j ≡ get_or v (at + 2 + j) 0
  code_is_lem j = ap (λ (k : ℕ). get_or v (at + 2 + k) 0) (one-mul j)

  part_in : (j : ℕ) → j < count - 2 → part_code v (chain_of t.size sup at count) j < 2 * d.header.roles
  part_in j h = let q = tab_each (λ i. get_or v i 0) (λ c. c < 2 * d.header.roles) (at + 2) (count - 2) parts_in j h in omega (arith, code_is_lem j)

  pub chain_chained : Chained I v t.size (chain_of t.size sup at count)
  chain_chained = record { sized = L.fits.size; sup = rows_of L sup (omega (arith, sup_in)); parts = λ j h. rows_of L (part_code v (chain_of t.size sup at count) j) (part_in j h) }

  parts_are : parts_of v (chain_of t.size sup at count) ≡ map role_of (run v (at + 2) (count - 2))
  parts_are =
      tab_same (λ j. role_of (part_code v (chain_of t.size sup at count) j)) (λ j. role_of (get_or v j 0)) 0 (at + 2) (count - 2) (λ j h. let z : 0 + j ≡ j = omega arith in rw z (ap role_of (code_is_lem j)))
      ∙ sym (map_tab role_of (λ i. get_or v i 0) (at + 2) (count - 2))

  pub chain_short : count - 2 ≤ most_listed
  chain_short =
      let q : axiom_width (SubChain (role_of (row_number v at 1)) (map role_of (run v (at + 2) (count - 2)))) ≤ most_listed = subst (λ (a : Axiom). axiom_width a ≤ most_listed) chain_arm L.narrow in
      omega (arith, ap length parts_are, length_parts v (chain_of t.size sup at count))

  pub chain_codes : (sup < 2 * 1024) × ((j : ℕ) → j < count - 2 → part_code v (chain_of t.size sup at count) j < 2 * 1024)
  chain_codes = (code_small L sup (row_number v at 1) e sup_in, λ j h. code_small L _ _ refl (part_in j h))

  pub chain_among : (j : ℕ) → j < count - 2 → at + 2 + 1 * j < lines_at
  chain_among j h = let q = one-mul j in omega (arith, L.below)

  pub chain_broken : (o : Option (List ℕ)) → o ≡ least_of (rises 0 I.size) (suc (count - 2)) (λ l. chain_at I (role_of sup) (place l 0) (parts_of v (chain_of t.size sup at count)) l) → o ≡ axiom_broken I d.concepts (row_axiom v 27 at count)
  chain_broken o q =
      q ∙ ap (λ (k : ℕ). least_of (rises 0 I.size) (suc k) (λ l. chain_at I (role_of sup) (place l 0) (parts_of v (chain_of t.size sup at count)) l)) (sym (length_parts v (chain_of t.size sup at count)))
      ∙ ap (λ (k : List Role). least_of (rises 0 I.size) (suc (length k)) (λ l. chain_at I (role_of sup) (place l 0) k l)) parts_are
      ∙ ap (λ (c : ℕ). axiom_broken I d.concepts (SubChain (role_of c) (map role_of (run v (at + 2) (count - 2))))) e
      ∙ ap (axiom_broken I d.concepts) (sym chain_arm)

-- ---- a transitive role: the chain r r below r
abbrev pub twice_of : (size sup at : ℕ) → Chain
twice_of size sup at = record { size = size; sup = sup; at = at + 1; step = 0; parts = 2 }

-- the condition of three elements
transitive_at : (I : Interpretation) (p : List Concept) (r : Role) (l : List ℕ) → length l ≡ 3 → chain_at I r (place l 0) (r ∷ r ∷ []) l ≡ axiom_holds_at I p (TransitiveRole r) l
unfolding chain_at
transitive_at I p r [] h = absurd (omega arith)
transitive_at I p r (x ∷ []) h = absurd (omega arith)
transitive_at I p r (x ∷ y ∷ []) h = absurd (omega arith)
transitive_at I p r (x ∷ y ∷ z ∷ []) h = implies_both (related I r x y) (related I r y z) (related I r x z)
transitive_at I p r (x ∷ y ∷ z ∷ u ∷ l) h = absurd (omega arith)

module _ {d : Known} {I : Interpretation} {w v : List ℕ} {t : Trial} {at count : ℕ} (L : Line d I w v t 28 at count) (sup : ℕ) (e : sup ≡ row_number v at 1) where
  transitive_arm : row_axiom v 28 at count ≡ TransitiveRole (role_of (row_number v at 1))
  transitive_arm = transitive_is v at count (eqb-true count 2 L.fields)

  pub transitive_in : row_number v at 1 < 2 * d.header.roles
  transitive_in = code_in (row_number v at 1) d.header.roles (arm_in L _ transitive_arm)

  same_code : (j : ℕ) → part_code v (twice_of t.size sup at) j ≡ sup
  same_code j = let z : at + 1 + 0 * j ≡ at + 1 = omega (arith, zero-mul j) in ap (λ (k : ℕ). get_or v k 0) z ∙ sym e

  pub transitive_chained : Chained I v t.size (twice_of t.size sup at)
  transitive_chained =
      let R : RowsOf I v sup = rows_of L sup (omega (arith, transitive_in)) in
      record { sized = L.fits.size; sup = R; parts = λ j h. subst (RowsOf I v) (sym (same_code j)) R }

  pub transitive_codes : (sup < 2 * 1024) × ((j : ℕ) → j < 2 → part_code v (twice_of t.size sup at) j < 2 * 1024)
  transitive_codes = let q = code_small L sup (row_number v at 1) e transitive_in in (q, λ j h. omega (arith, same_code j))

  pub transitive_among : (j : ℕ) → j < 2 → at + 1 + 0 * j < lines_at
  transitive_among j h = let two = eqb-true count 2 L.fields in omega (arith, zero-mul j, L.below)

  parts_two : parts_of v (twice_of t.size sup at) ≡ role_of sup ∷ role_of sup ∷ []
  unfolding tab
  parts_two = tab_same (λ j. role_of (part_code v (twice_of t.size sup at) j)) (λ _. role_of sup) 0 0 2 (λ j h. ap role_of (same_code (0 + j)))

  pub transitive_broken : (o : Option (List ℕ)) → o ≡ least_of (rises 0 I.size) 3 (λ l. chain_at I (role_of sup) (place l 0) (parts_of v (twice_of t.size sup at)) l) → o ≡ axiom_broken I d.concepts (row_axiom v 28 at count)
  transitive_broken o q =
      q ∙ ap (λ (k : List Role). least_of (rises 0 I.size) 3 (λ l. chain_at I (role_of sup) (place l 0) k l)) parts_two
      ∙ least_same I.size 3 (λ l. chain_at I (role_of sup) (place l 0) (role_of sup ∷ role_of sup ∷ []) l) (axiom_holds_at I d.concepts (TransitiveRole (role_of sup))) (λ l A. transitive_at I d.concepts (role_of sup) l A.many)
      ∙ ap (λ (c : ℕ). axiom_broken I d.concepts (TransitiveRole (role_of c))) e
      ∙ ap (axiom_broken I d.concepts) (sym transitive_arm)

-- ---- what the code asks
module _ (s : List ℕ) (t : Trial) (at count sup : ℕ) where
  pub chain_in : (P : LineIn s t 27 at count) → sup ≡ row_number (words s) at 1 → ChainIn s t.size (chain_of t.size sup at count)
  chain_in P e = let L = P.line in record {
    meant = P.meant;
    chained = chain_chained L sup e;
    few = few_elements L;
    short = chain_short L sup e;
    code = (chain_codes L sup e).0;
    among = chain_among L sup e;
    codes = (chain_codes L sup e).1;
    space = P.space;
  }

  pub transitive_there : (P : LineIn s t 28 at count) → sup ≡ row_number (words s) at 1 → ChainIn s t.size (twice_of t.size sup at)
  transitive_there P e = let L = P.line in record {
    meant = P.meant;
    chained = transitive_chained L sup e;
    few = few_elements L;
    short = omega arith;
    code = (transitive_codes L sup e).0;
    among = transitive_among L sup e;
    codes = (transitive_codes L sup e).1;
    space = P.space;
  }

-- ---- an assertion: the class of the individual holds its element alone
alone_none : (n x : ℕ) (g : ℕ → Bool) → x < n → all (λ y. not (g y && eqb y x)) (rises 0 n) ≡ not (g x)
alone_none n x g h = sym (all_rising n (λ y. not (g y && eqb y x))) ∙ both_ways (all (λ y. not (g y && eqb y x)) (elements_below n)) (not (g x)) there back
  where
    at_x_lem : (a b : Bool) → b ≡ true → not (a && b) ≡ true → not a ≡ true
    at_x_lem true b e q = ap not (sym e) ∙ q
    at_x_lem false b e q = refl

    there : all (λ y. not (g y && eqb y x)) (elements_below n) ≡ true → not (g x) ≡ true
    there q = at_x_lem (g x) (eqb x x) (eq-eqb x x refl) (elements_all n (λ y. not (g y && eqb y x)) q x h)

    other : (a b : Bool) → b ≡ false → not (a && b) ≡ true
    other true b e = ap not e
    other false b e = refl

    same : (a b : Bool) → not a ≡ true → not (a && b) ≡ true
    same true b q = absurd (false≢true q)
    same false b q = refl

    back : not (g x) ≡ true → all (λ y. not (g y && eqb y x)) (elements_below n) ≡ true
    back q = all_elements n (λ y. not (g y && eqb y x)) (λ y k. by_truth (eqb y x) (λ e. same (g y) (eqb y x) (ap (λ (z : ℕ). not (g z)) (eqb-true y x e) ∙ q)) (λ e. other (g y) (eqb y x) e))

module _ {d : Known} {I : Interpretation} {w v : List ℕ} {t : Trial} {at count : ℕ} (L : Line d I w v t 36 at count) where
  assertion_arm : row_axiom v 36 at count ≡ ClassAssertion (row_number v at 1) (row_number v at 2)
  assertion_arm = assertion_is v at count (eqb-true count 3 L.fields)

  pub assertion_in : (row_number v at 1 < length d.concepts) × (row_number v at 2 < d.header.individuals)
  assertion_in = arm_in L _ assertion_arm

  pub base_in_lem : t.base + row_number v at 2 < 8192
  base_in_lem = omega (arith, L.fits.base, assertion_in.1, L.ready.inside.classes, L.ready.inside.individuals)

  module _ (a b i k m : ℕ) (ea : a ≡ row_number v at 1) (eb : b ≡ row_number v at 2) (ei : i ≡ set_at v (concepts_at + a)) (ek : k ≡ set_at w (t.base + b)) (long : 16384 ≤ length w) (B : Both i k m) where
    empty_is : eqb m 0 ≡ not (means I d.concepts (row_number v at 1) (I.individual (row_number v at 2)))
    empty_is =
        let j = row_number v at 2 in
        let g = means I d.concepts (row_number v at 1) in
        let z : t.base + b ≡ d.header.classes + j = omega (arith, L.fits.base) in
        let q : k ≡ mask_of I.size (I.class (d.header.classes + j)) = ek ∙ ap (set_at w) z ∙ L.ready.laid.classes (d.header.classes + j) (omega (arith, base_in_lem, L.fits.base)) in
        let r : m ≡ mask_of I.size (λ y. g y && eqb y (I.individual j)) =
        B I.size g (I.class (d.header.classes + j)) (concept_of_lem L a (row_number v at 1) i ea assertion_in.0 ei) q
        ∙ mask_same I.size (λ y. g y && I.class (d.header.classes + j) y) (λ y. g y && eqb y (I.individual j)) (λ y h. ap (λ x. g y && x) (L.ready.proper.alone j y assertion_in.1 h)) in
        ap (λ (n : ℕ). eqb n 0) r ∙ mask_none I.size (λ y. g y && eqb y (I.individual j)) ∙ alone_none I.size (I.individual j) g (L.ready.proper.elements j assertion_in.1)

    by_truth_of : (x : Bool) → means I d.concepts (row_number v at 1) (I.individual (row_number v at 2)) ≡ x → pick x none (some []) ≡ axiom_broken I d.concepts (row_axiom v 36 at count)
    unfolding least_of
    by_truth_of x e = ap (λ y. pick {A = Option (List ℕ)} y none (some [])) (sym e) ∙ ap (axiom_broken I d.concepts) (sym assertion_arm)

    pub assertion_broken : m ≡ 0 → some [] ≡ axiom_broken I d.concepts (row_axiom v 36 at count)
    assertion_broken z = by_truth_of false (not-true _ (sym empty_is ∙ eq-eqb m 0 z))

    pub assertion_holds : (m ≡ 0 → ⊥) → none ≡ axiom_broken I d.concepts (row_axiom v 36 at count)
    assertion_holds z = by_truth_of true (not-false _ (sym empty_is ∙ ne_eqb m 0 z))
