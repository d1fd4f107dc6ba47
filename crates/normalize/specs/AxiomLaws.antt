-- Axioms in scratch and their normal forms: what one axiom's run of concepts gives, and the loop over all axioms. Assumes nothing.
use Rattle.std.specs.Prelude.{◌≡◌, refl, true, List, ◌++◌, ℕ, ◌+◌, ◌*◌, ◌-◌, ◌<◌, ◌≤◌, eqb, ltb, length, get_or}
use Rattle.std.proofs.Common.{sym, ap, subst, ◌∙◌, arith, zero-add, eqb-true, leb-true, ltb-true, ltb-false}
use Rattle.words.specs.Words.{words}
use Rattle.std.proofs.lemmas.Bool.{eqb-false}
use Rattle.rules.specs.TextLaws.{by_test}
use Rattle.ir.specs.Scratch.{axioms_at, numbers_at, stack_at}
use Rattle.ir.specs.declared.counters.Counters.{Counters}
use Rattle.ir.specs.Answer.{Answer}
use Rattle.ir.specs.Answer.{Done, Refused}
use Rattle.rules.specs.Base.{Res, ok, refused, then, each}
use Rattle.rules.specs.Concept.{Axiom}
use Rattle.rules.specs.Deck.{section_of, fields_ok, axiom_of}
use Rattle.rules.specs.Normalize.{St, nnf, nnf_axiom}
use Rattle.rules.specs.Invariants.{Each, AxiomIn}
use Rattle.pool.specs.Layout.{run}
use Rattle.pool.specs.Tabs.{tab_same, length_tab, tab_each, tab_append}
use Rattle.deck.proofs.KindLaws.{axiom_kinds}
use Rattle.ontology.specs.Layout.{axiom_start, axiom_count, axiom_number, axiom_row, axiom_at, AxiomsHeld}
use Rattle.rebuilding.specs.States.{state_of, told, after_run, HeldRun, Kept, NormalizingRun}
use Rattle.normalize.specs.Known.{KnownAfter}
use Rattle.normalize.specs.Axioms.{first_concept, concept_count, base_in, concepts_at, concepts_in, after_axiom, NormalizingAxioms}
use Rattle.normalize.specs.AxiomRows.{Row, nnf_row, row_named}

-- a line of kind k with n numbers has its concepts inside
abbrev Inside : ℕ → Type 0
Inside k = (n : ℕ) → fields_ok k n ≡ true → (first_concept k + concept_count k n ≤ n) × (1 ≤ first_concept k)

pub concepts_inside : (k : ℕ) → section_of k ≡ 4 → Inside k
concepts_inside = axiom_kinds Inside
    (λ n h. let e = eqb-true n 3 h in (omega arith, omega arith))
    (λ n h. let e = leb-true 1 n h in (omega arith, omega arith))
    (λ n h. let e = leb-true 1 n h in (omega arith, omega arith))
    (λ n h. let e = leb-true 2 n h in (omega arith, omega arith))
    (λ n h. let e = eqb-true n 3 h in (omega arith, omega arith))
    (λ n h. let e = eqb-true n 3 h in (omega arith, omega arith))
    (λ n h. let e = leb-true 2 n h in (omega arith, omega arith))
    (λ n h. let e = eqb-true n 2 h in (omega arith, omega arith))
    (λ n h. let e = eqb-true n 2 h in (omega arith, omega arith))
    (λ n h. let e = eqb-true n 2 h in (omega arith, omega arith))
    (λ n h. let e = leb-true 1 n h in (omega arith, omega arith))
    (λ n h. let e = eqb-true n 3 h in (omega arith, omega arith))
    (λ n h. let e = eqb-true n 3 h in (omega arith, omega arith))
    (λ n h. let e = leb-true 1 n h in (omega arith, omega arith))
    (λ n h. let e = eqb-true n 2 h in (omega arith, omega arith))
    (λ n h. let e = eqb-true n 3 h in (omega arith, omega arith))

-- ---- a run in three
-- axiom i's row: the numbers before its concepts, the concepts, the numbers after them
module _ (w : List ℕ) (i : ℕ) where
  abbrev kind_in : ℕ
  kind_in = axiom_number w i 0

  abbrev first_in : ℕ
  first_in = first_concept kind_in

  abbrev rest_in : ℕ
  rest_in = axiom_count w i - (first_in + concepts_in w i)

  pub row_in_three : first_in + (concepts_in w i) ≤ axiom_count w i → axiom_row w i ≡ run w (base_in w i) first_in ++ (run w (concepts_at w i) (concepts_in w i) ++ run w (concepts_at w i + concepts_in w i) rest_in)
  row_in_three h =
      let e : axiom_count w i ≡ first_in + ((concepts_in w i) + rest_in) = omega arith in
      ap (run w (base_in w i)) e ∙ tab_append (λ j. get_or w j 0) (base_in w i) first_in ((concepts_in w i) + rest_in)
      ∙ ap (λ (l : List ℕ). run w (base_in w i) first_in ++ l) (tab_append (λ j. get_or w j 0) (concepts_at w i) (concepts_in w i) rest_in)

module _ (w : List ℕ) (n i : ℕ) (H : AxiomsHeld w n) (h : i < n) where
  pub inside : (first_in w i + concepts_in w i ≤ axiom_count w i) × (1 ≤ first_in w i)
  inside = concepts_inside (kind_in w i) (H.kinds i h) (axiom_count w i) (H.fields i h)

  pub three : Row (kind_in w i) (run w (base_in w i) (first_in w i)) (run w (concepts_at w i) (concepts_in w i)) (run w (concepts_at w i + concepts_in w i) (rest_in w i))
  three =
      let e = row_in_three w i inside.0 in
      let l : length (axiom_row w i) ≡ axiom_count w i = length_tab (λ j. get_or w j 0) (base_in w i) (axiom_count w i) in
      record {
        fields = rw (← e, l) (H.fields i h);
        first = length_tab (λ j. get_or w j 0) (base_in w i) (first_in w i);
        count = rw (← e, l) (length_tab (λ j. get_or w j 0) (concepts_at w i) (concepts_in w i));
      }

-- ---- one axiom: its concepts became the words of w' there, and nothing else of its row changed
-- the code's answer for an axiom, of its answer for the concepts
pub after_then : (r : Answer) (l w : List ℕ) (k : Counters) (m : Res St (List ℕ)) (g : List ℕ → Axiom) → after_run r l w ≡ told k m → after_axiom r (g l) w ≡ told k (then m (λ x t. ok (g x) t))
after_then (Done k' j) l w k (ok x t) g e =
    let a : l ≡ x = cc in
    cc
after_then (Done k' j) l w k (refused n) g e = absurd (let z : ◌≡◌ {A = ℕ} 0 1 = cc in omega arith)
after_then (Refused n) l w k (ok x t) g e = absurd (let z : ◌≡◌ {A = ℕ} 0 1 = cc in omega arith)
after_then (Refused n) l w k (refused m) g e = cc

module _ (w w' : List ℕ) (n i : ℕ) (H : AxiomsHeld w n) (h : i < n) (K : Kept (concepts_at w i) (concepts_in w i) stack_at w w') where
  -- where the axioms'' numbers begin does not change
  pub start_kept : (j : ℕ) → j < n → axiom_start w' j ≡ axiom_start w j
  start_kept j l = K.before (axioms_at + 2 * j) (omega arith) (omega (arith, H.few))

  pub count_kept : (j : ℕ) → j < n → axiom_count w' j ≡ axiom_count w j
  count_kept j l = K.before (axioms_at + 2 * j + 1) (omega arith) (omega (arith, H.few))

  run_before : run w' (base_in w i) (first_in w i) ≡ run w (base_in w i) (first_in w i)
  run_before = tab_same (λ j. get_or w' j 0) (λ j. get_or w j 0) (base_in w i) (base_in w i) (first_in w i) (λ k l. K.before (base_in w i + k) (omega arith) (omega arith))

  run_after : run w' (concepts_at w i + concepts_in w i) (rest_in w i) ≡ run w (concepts_at w i + concepts_in w i) (rest_in w i)
  run_after =
      let o = H.within i h in
      let q = inside w n i H h in
      tab_same (λ j. get_or w' j 0) (λ j. get_or w j 0) (concepts_at w i + concepts_in w i) (concepts_at w i + concepts_in w i) (rest_in w i)
      (λ k l. K.between (concepts_at w i + concepts_in w i + k) (omega arith) (omega (arith, q.0)))

  pub kind_kept : axiom_number w' i 0 ≡ axiom_number w i 0
  kind_kept =
      let e = start_kept i h in
      let q = inside w n i H h in
      rw e (K.before (base_in w i + 0) (omega arith) (omega (arith, q.1)))

  pub row_after : axiom_row w' i ≡ run w (base_in w i) (first_in w i) ++ (run w' (concepts_at w i) (concepts_in w i) ++ run w (concepts_at w i + concepts_in w i) (rest_in w i))
  row_after =
      let s = start_kept i h in
      let c = count_kept i h in
      let e : axiom_count w i ≡ first_in w i + (concepts_in w i + rest_in w i) = let q = inside w n i H h in omega (arith, q.0) in
      ap (λ (j : ℕ). run w' (numbers_at + j) (axiom_count w' i)) s ∙ ap (run w' (base_in w i)) (c ∙ e)
      ∙ tab_append (λ j. get_or w' j 0) (base_in w i) (first_in w i) (concepts_in w i + rest_in w i)
      ∙ ap (λ (l : List ℕ). run w' (base_in w i) (first_in w i) ++ l) (tab_append (λ j. get_or w' j 0) (concepts_at w i) (concepts_in w i) (rest_in w i))
      ∙ rw (run_before, run_after) refl

  pub axiom_after : axiom_at w' i ≡ axiom_of (kind_in w i) (run w (base_in w i) (first_in w i) ++ (run w' (concepts_at w i) (concepts_in w i) ++ run w (concepts_at w i + concepts_in w i) (rest_in w i)))
  axiom_after = ap (λ (k : ℕ). axiom_of k (axiom_row w' i)) kind_kept ∙ ap (axiom_of (kind_in w i)) row_after

  pub axiom_returns : (r : Answer) (k : Counters) → after_run r (run w' (concepts_at w i) (concepts_in w i)) w' ≡ told k (each nnf (run w (concepts_at w i) (concepts_in w i)) (state_of k w))
      → after_axiom r (axiom_at w' i) w' ≡ told k (nnf_axiom (axiom_at w i) (state_of k w))
  axiom_returns r k e =
      let s = state_of k w in
      ap (λ (a : Axiom). after_axiom r a w') axiom_after
      ∙ after_then r (run w' (concepts_at w i) (concepts_in w i)) w' k (each nnf (run w (concepts_at w i) (concepts_in w i)) s)
      (λ x. axiom_of (kind_in w i) (run w (base_in w i) (first_in w i) ++ (x ++ run w (concepts_at w i + concepts_in w i) (rest_in w i)))) e
      ∙ ap (told k) (sym (ap (λ (q : List ℕ). nnf_axiom (axiom_of (kind_in w i) q) s) (row_in_three w i (inside w n i H h).0) ∙ nnf_row s (kind_in w i) (H.kinds i h) _ _ _ (three w n i H h)))

  -- the other axioms are as they were
  other_row : (j : ℕ) → j < n → (j ≡ i → ⊥) → (m : ℕ) → m < axiom_count w j → get_or w' (base_in w j + m) 0 ≡ get_or w (base_in w j + m) 0
  other_row j l d m b = by_test (ltb j i)
      (λ c. let o = H.apart j i (ltb-true j i c) h in K.before (base_in w j + m) (omega arith) (omega arith))
      (λ c. let g = ltb-false j i c in let v = H.within j l in
      let o = H.apart i j (below g d) l in let q = inside w n i H h in K.between (base_in w j + m) (omega (arith, q.0)) (omega arith))
    where
      below : i ≤ j → (j ≡ i → ⊥) → i < j
      below g d = omega (arith, d)

  pub axiom_kept : (j : ℕ) → j < n → (j ≡ i → ⊥) → axiom_at w' j ≡ axiom_at w j
  axiom_kept j l d =
      let s = start_kept j l in
      let c = count_kept j l in
      let f : 1 ≤ axiom_count w j = let q = concepts_inside (axiom_number w j 0) (H.kinds j l) (axiom_count w j) (H.fields j l) in omega (arith, q.0, q.1) in
      let k : axiom_number w' j 0 ≡ axiom_number w j 0 = rw s (other_row j l d 0 f) in
      let r : axiom_row w' j ≡ axiom_row w j = ap (λ (m : ℕ). run w' (numbers_at + m) (axiom_count w' j)) s ∙ ap (run w' (base_in w j)) c
      ∙ tab_same (λ x. get_or w' x 0) (λ x. get_or w x 0) (base_in w j) (base_in w j) (axiom_count w j) (λ m b. other_row j l d m b) in
      rw (k, r) refl

  number_kept : (j : ℕ) → j < n → axiom_number w' j 0 ≡ axiom_number w j 0
  number_kept j l = by_test (eqb j i)
      (λ c. let e = eqb-true j i c in rw e kind_kept)
      (λ c. let f : 1 ≤ axiom_count w j = let q = concepts_inside (axiom_number w j 0) (H.kinds j l) (axiom_count w j) (H.fields j l) in omega (arith, q.0, q.1) in
      rw (start_kept j l) (other_row j l (eqb-false j i c) 0 f))

  pub held_after : AxiomsHeld w' n
  held_after = record {
    few = H.few;
    within = λ j l. rw (start_kept j l, count_kept j l) (H.within j l);
    apart = λ a b l m. rw (start_kept a (omega arith), count_kept a (omega arith), start_kept b m) (H.apart a b l m);
    kinds = λ j l. rw (number_kept j l) (H.kinds j l);
    fields = λ j l. rw (number_kept j l, count_kept j l) (H.fields j l);
  }

-- ---- what the run of an axiom's concepts asks
module _ (s : List ℕ) (k : Counters) (n i : ℕ) (A : NormalizingAxioms s k n) (h : i < n) where
  pub concepts_in_lem : (first_concept (axiom_number (words s) i 0) + concepts_in (words s) i ≤ axiom_count (words s) i) × (1 ≤ first_concept (axiom_number (words s) i 0))
  concepts_in_lem = concepts_inside (axiom_number (words s) i 0) (A.held.kinds i h) (axiom_count (words s) i) (A.held.fields i h)

  concepts_below : Each (λ d. d < k.concepts) (run (words s) (concepts_at (words s) i) (concepts_in (words s) i))
  concepts_below =
      let e : 0 + i ≡ i = zero-add i in
      let o : AxiomIn A.bounds k.concepts (axiom_at (words s) i) = rw e at (tab_each (axiom_at (words s)) (AxiomIn A.bounds k.concepts) 0 n A.inside i h) in
      row_named A.bounds k.concepts (axiom_number (words s) i 0) (A.held.kinds i h) _ _ _ (three (words s) n i A.held h)
      (subst (λ (r : List ℕ). AxiomIn A.bounds k.concepts (axiom_of (axiom_number (words s) i 0) r)) (row_in_three (words s) i concepts_in_lem.0) o)

  pub axiom_asks : NormalizingRun s k (concepts_at (words s) i) (concepts_in (words s) i) stack_at k.concepts
  axiom_asks =
      let R = A.ready.held in
      let o = A.held.within i h in
      let q = concepts_in_lem in
      record {
        bounds = A.bounds;
        ready = A.ready;
        wf = A.wf;
        inside = omega arith;
        below = concepts_below;
        above = omega arith;
        apart = omega (arith, q.0);
        room = omega (arith, R.count, R.space, R.few);
        space = A.space;
      }

  -- the same where the code has them, and what the run gives
  module _ (a m : ℕ) (p : a ≡ concepts_at (words s) i) (q : m ≡ concepts_in (words s) i) where
    pub run_asks : NormalizingRun s k a m stack_at k.concepts
    run_asks = rw (p, q) axiom_asks

    pub axiom_did : (r : Answer) (w' : List ℕ) → after_run r (run w' a m) w' ≡ told k (each nnf (run (words s) a m) (state_of k (words s))) → HeldRun r w' → Kept a m stack_at (words s) w' → KnownAfter true r w'
        → (after_axiom r (axiom_at w' i) w' ≡ told k (nnf_axiom (axiom_at (words s) i) (state_of k (words s)))) × (HeldRun r w' × (Kept (concepts_at (words s) i) (concepts_in (words s) i) stack_at (words s) w' × KnownAfter true r w'))
    axiom_did r w' e l K N =
        let K' : Kept (concepts_at (words s) i) (concepts_in (words s) i) stack_at (words s) w' = rw (← p, ← q) K in
        let e' : after_run r (run w' (concepts_at (words s) i) (concepts_in (words s) i)) w' ≡ told k (each nnf (run (words s) (concepts_at (words s) i) (concepts_in (words s) i)) (state_of k (words s))) = rw (← p, ← q) e in
        (axiom_returns (words s) w' n i A.held h K' r k e', (l, (K', N)))

-- the numbers that the code reads
pub concepts_at_lem : (w : List ℕ) (i kind first start : ℕ) → kind ≡ axiom_number w i 0 → first ≡ first_concept kind → start ≡ axiom_start w i → numbers_at + start + first ≡ concepts_at w i
concepts_at_lem w i kind first start a b c = rw (c, b, a) refl

pub concepts_count : (w : List ℕ) (i kind count m : ℕ) → kind ≡ axiom_number w i 0 → count ≡ axiom_count w i → m ≡ concept_count kind count → m ≡ concepts_in w i
concepts_count w i kind count m a b c = c ∙ rw (a, b) refl
