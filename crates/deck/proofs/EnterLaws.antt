-- What a good line leaves: the header, a key mark, a concept, an axiom. Assumes nothing.
use Rattle.std.proofs.lemmas.Bool.{and_parts}
use mathlib.Core.Path.{◌≡◌, refl, sym, ap, subst, ◌∙◌}
use mathlib.Core.Bool.{true, false≢true}
use mathlib.Core.List.{List}
use Prim.Native.Nat.{ℕ, ◌+◌, ◌*◌, ◌<◌, ◌≤◌}
use native.Mathlib.Omega.{arith}
use borrow.Author.Tests.{eqb-true, leb-true, ltb-true, ltb-false}
use lib.Dec.{eqb, ltb, leb}
use lib.ListN.{length, get_or, drop}
use Rattle.words.specs.Words.{words}
use Rattle.words.specs.Laws.{length_words}
use Rattle.ir.specs.Pick.{pick}
use Rattle.rules.specs.Deck.{most_concept_lines, most_axioms, most_listed, section_of, list_of, header_of, in_order, fields_ok, header_ok, room_ok, depth_of, entered}
use Rattle.rules.specs.DeckLaws.{Passed, verdict_zero, ConceptPassed, concept_zero}
use Rattle.rules.specs.Invariants.{Each}
use Rattle.rules.specs.TextLaws.{by_test}
use Rattle.text.specs.Rows.{row_at}
use Rattle.text.specs.RowLaws.{length_row}
use Rattle.deck.specs.Index.{hash_of}
use Rattle.deck.specs.IndexLaws.{indexed_same, indexed_more}
use Rattle.deck.specs.Records.{section_number, first_part, tab, concept_at, axiom_at, row_in, depth_in, axiom_row_in, key_in, concepts_in, depths_in, axioms_in, known_in, hash_in, with_header, with_key, with_concept, with_axiom, axiom_fields, ConceptsHeld, AxiomLine, ConceptLine, Entering, Entered}
use Rattle.deck.specs.TabLaws.{tab_more, sum_more}
use Rattle.deck.specs.declared.state.State.{State}
use Rattle.deck.proofs.KindLaws.{key_kind}
use Rattle.deck.proofs.ConceptLaws.{line_row, line_parts, counted_known}
use Rattle.deck.proofs.TableLaws.{Agree, axiom_put, concept_put, index_put, row_agree, concepts_agree, depths_agree, axiom_row_agree, axioms_agree, fields_agree, axiom_before, axiom_after, axiom_begin, axiom_fields_lem, concept_before, concept_after, concept_word, concept_begin, head_new, head_old, link_new, link_old}

words_long : (s t : List ℕ) (n : ℕ) → ConceptsHeld s t n → 7168 ≤ length (words t)
words_long s t n H = rw (length_words t) (omega (arith, H.room))

-- the concept lines' records, where their words are the same
held_agree : (s t u : List ℕ) (n : ℕ) → ConceptsHeld s t n → length u ≡ length t → Agree (words t) (words u) 0 (3 * n) → Agree (words t) (words u) 5120 7168 → ConceptsHeld s u n
held_agree s t u n H l A B = record {
  room = rw l H.room;
  few = H.few;
  lines = λ i h. rw (A (3 * i) (omega arith) (omega arith), A (3 * i + 1) (omega arith) (omega arith)) (H.lines i h);
  rows = λ i h. rw (row_agree s (words t) (words u) n A i h) (H.rows i h);
  numbers = λ i h. rw (row_agree s (words t) (words u) n A i h) (H.numbers i h);
  depths = λ i h. rw (A (3 * i + 2) (omega arith) (omega arith)) (H.depths i h);
  index =
      indexed_same 5120 6144 (hash_in s (words t)) (hash_in s (words u)) (words t) (words u) n H.index (λ i h. ap hash_of (sym (row_agree s (words t) (words u) n A i h)))
      (λ h g. B (5120 + h) (omega arith) (omega arith)) (λ i h. B (6144 + i) (omega arith) (omega (arith, H.few)));
}

module _ (s t : List ℕ) (p n : ℕ) (k : State) (E : Entering s t p n k) where
  passed : Passed (known_in s t k) (get_or (row_at s p n) 0 0) (row_at s p n)
  passed = verdict_zero (known_in s t k) (get_or (row_at s p n) 0 0) (row_at s p n) E.good

  shaped : (in_order (section_number k.section) (section_of (get_or (row_at s p n) 0 0)) ≡ true) × (fields_ok (get_or (row_at s p n) 0 0) (length (row_at s p n)) ≡ true)
  shaped = and_parts (in_order (section_number k.section) (section_of (get_or (row_at s p n) 0 0))) (fields_ok (get_or (row_at s p n) 0 0) (length (row_at s p n))) passed.shape

  order_is : (i : ℕ) → section_of (get_or (row_at s p n) 0 0) ≡ i → in_order (section_number k.section) i ≡ true
  order_is i e = subst (λ (j : ℕ). in_order (section_number k.section) j ≡ true) e shaped.0

  fields_are : fields_ok (get_or (row_at s p n) 0 0) n ≡ true
  fields_are = rw (length_row s p n) at shaped.1

  room_is : (i : ℕ) → section_of (get_or (row_at s p n) 0 0) ≡ i
      → pick (eqb i 1) (header_ok (header_of (row_at s p n))) (pick (eqb i 3) (ltb (length (concepts_in s (words t) k.concepts)) most_concept_lines) (pick (eqb i 4) (ltb (length (axioms_in s (words t) k.axioms)) most_axioms) true)) ≡ true
  room_is i e =
      subst (λ (j : ℕ). pick (eqb j 1) (header_ok (header_of (row_at s p n))) (pick (eqb j 3) (ltb (length (concepts_in s (words t) k.concepts)) most_concept_lines) (pick (eqb j 4) (ltb (length (axioms_in s (words t) k.axioms)) most_axioms) true)) ≡ true) e
      (and_parts (leb (length (list_of (get_or (row_at s p n) 0 0) (row_at s p n))) most_listed) (room_ok (known_in s t k) (get_or (row_at s p n) 0 0) (row_at s p n)) passed.limits).1

  -- a good line is of a section
  pub section_some : section_of (get_or (row_at s p n) 0 0) ≡ 0 → ⊥
  section_some e = false≢true (order_is 0 e)

  -- ---- the header
  pub enter_header_law : section_of (get_or (row_at s p n) 0 0) ≡ 1 → Entered s t t p n k (with_header k (row_at s p n) (p + 11 * n + 1))
  unfolding entered tab
  enter_header_law e =
      let H = E.held in
      let o = eqb-true (section_number k.section) 0 (order_is 1 e) in
      let z : k.keys ≡ 0 = H.no_key (omega arith) in
      record {
        after = rw (e, z) refl;
        held = record {
          small = H.small;
          concepts = H.concepts;
          few = H.few;
          lines = H.lines;
          rows = H.rows;
          used = omega (arith, H.used);
          keys = omega (arith, E.line);
          last_key = λ _. omega arith;
          no_key = λ _. z;
        };
      }

  -- ---- a key mark
  pub enter_key_law : section_of (get_or (row_at s p n) 0 0) ≡ 2 → Entered s t t p n k (with_key k)
  unfolding entered
  enter_key_law e =
      let H = E.held in
      let o = leb-true (section_number k.section) 2 (and_parts (leb 1 (section_number k.section)) (leb (section_number k.section) 2) (order_is 2 e)).1 in
      let z : k.marks + 23 * k.keys ≡ p = H.last_key o in
      let q : n ≡ 2 = eqb-true n 2 (subst (λ (j : ℕ). fields_ok j n ≡ true) (key_kind (get_or (row_at s p n) 0 0) e) fields_are) in
      let r : key_in s k.marks k.keys ≡ get_or (row_at s p n) 1 0 = rw (z, q) refl in
      record {
        after = rw (e, tab_more (key_in s k.marks) k.keys, r) refl;
        held = record {
          small = H.small;
          concepts = H.concepts;
          few = H.few;
          lines = H.lines;
          rows = H.rows;
          used = omega (arith, H.used);
          keys = omega (arith, E.line);
          last_key = λ _. omega arith;
          no_key = λ l. absurd (omega arith);
        };
      }

  -- ---- an axiom
  entering_axiom : section_of (get_or (row_at s p n) 0 0) ≡ 4 → AxiomLine (row_at s p n)
  entering_axiom e = record { section = e; fields = shaped.1; numbers = E.numbers }

  pub few_axioms_lem : section_of (get_or (row_at s p n) 0 0) ≡ 4 → k.axioms < 1024
  few_axioms_lem e = let l = ltb-true (length (axioms_in s (words t) k.axioms)) most_axioms (room_is 4 e) in rw (counted_known s t k).axioms at l

  -- ---- a concept
  pub few_concepts_lem : section_of (get_or (row_at s p n) 0 0) ≡ 3 → k.concepts < 1024
  few_concepts_lem e = let l = ltb-true (length (concepts_in s (words t) k.concepts)) most_concept_lines (room_is 3 e) in rw (counted_known s t k).concepts at l

  pub entering_line : section_of (get_or (row_at s p n) 0 0) ≡ 3 → ConceptLine s p n (get_or (row_at s p n) 0 0)
  entering_line e = record { within = omega (arith, E.line); kind = refl; section = e; fields = fields_are }

  concept_passed : section_of (get_or (row_at s p n) 0 0) ≡ 3 → ConceptPassed (known_in s t k) (concept_at (row_at s p n))
  concept_passed e = concept_zero (known_in s t k) (concept_at (row_at s p n)) (passed.concept e)

  pub entering_parts : section_of (get_or (row_at s p n) 0 0) ≡ 3 → Each (λ c. c < k.concepts) (drop (first_part (get_or (row_at s p n) 0 0)) (row_at s p n))
  entering_parts e = rw (line_parts s p n (get_or (row_at s p n) 0 0) (entering_line e), (counted_known s t k).concepts) at (concept_passed e).below

  pub entering_depth : section_of (get_or (row_at s p n) 0 0) ≡ 3 → depth_of (depths_in (words t) k.concepts) (concept_at (row_at s p n)) ≤ 64
  entering_depth e = (concept_passed e).depth

module _ (s t u : List ℕ) (p n : ℕ) (k : State) (E : Entering s t p n k) (long : length u ≡ length t) where
  pub enter_axiom_law : section_of (get_or (row_at s p n) 0 0) ≡ 4 → words u ≡ axiom_put (words t) k.axioms p n → Entered s t u p n k (with_axiom k)
  unfolding entered
  enter_axiom_law e q =
      let w : List ℕ = words t in
      let a : ℕ = k.axioms in
      let H = E.held in
      let few = few_axioms_lem s t p n k E e in
      let W = words_long s t k.concepts H.concepts in
      let C : (b : ℕ) → b ≤ 3072 + 2 * a → Agree w (words u) 0 b = λ b l. subst (λ (v : List ℕ). Agree w v 0 b) (sym q) (axiom_before w a p n few W b l) in
      let D : Agree w (words u) 5120 7168 = subst (λ (v : List ℕ). Agree w v 5120 7168) (sym q) (axiom_after w a p n few W) in
      let A : Agree w (words u) 0 (3 * k.concepts) = C (3 * k.concepts) (omega (arith, H.concepts.few)) in
      let B : Agree w (words u) 3072 (3072 + 2 * a) = λ i l m. C (3072 + 2 * a) (omega arith) i (omega arith) m in
      let begin : get_or (words u) (3072 + 2 * a) 0 ≡ p = rw q (axiom_begin w a p n few W) in
      let fields : get_or (words u) (3072 + 2 * a + 1) 0 ≡ n = rw q (axiom_fields_lem w a p n few W) in
      record {
        after = rw (e, concepts_agree s w (words u) k.concepts A, depths_agree s w (words u) k.concepts A, tab_more (λ i. axiom_at (axiom_row_in s (words u) i)) a, axioms_agree s w (words u) a B, begin, fields) refl;
        held = record {
          small = H.small;
          concepts = held_agree s t u k.concepts H.concepts long A D;
          few = omega arith;
          lines = λ i l. by_test (ltb i a)
              (λ c. let m = ltb-true i a c in rw (B (3072 + 2 * i) (omega arith) (omega arith), B (3072 + 2 * i + 1) (omega arith) (omega arith)) (H.lines i m))
              (λ c. let m = ltb-false i a c in let z : i ≡ a = omega arith in rw (z, begin, fields) (omega (arith, E.line)));
          rows = λ i l. by_test (ltb i a)
              (λ c. let m = ltb-true i a c in rw (axiom_row_agree s w (words u) a B i m) (H.rows i m))
              (λ c. let m = ltb-false i a c in let z : i ≡ a = omega arith in rw (z, begin, fields) (entering_axiom s t p n k E e));
          used = rw (sum_more (axiom_fields (words u)) a, fields_agree s w (words u) a B, fields) (omega (arith, H.used));
          keys = H.keys;
          last_key = λ l. absurd (omega arith);
          no_key = λ l. absurd (omega arith);
        };
      }

  module _ (e : section_of (get_or (row_at s p n) 0 0) ≡ 3) (d h : ℕ) (hash : h ≡ hash_of (row_at s p n)) (low : h < 1024)
      (q : words u ≡ index_put (concept_put (words t) k.concepts p n d) k.concepts h) (depth : d ≡ depth_of (depths_in (words t) k.concepts) (concept_at (row_at s p n))) where
    few : k.concepts < 1024
    few = few_concepts_lem s t p n k E e

    W : 7168 ≤ length (words t)
    W = words_long s t k.concepts E.held.concepts

    A : Agree (words t) (words u) 0 (3 * k.concepts)
    A = subst (λ (v : List ℕ). Agree (words t) v 0 (3 * k.concepts)) (sym q) (concept_before (words t) k.concepts p n d h few low W)

    B : Agree (words t) (words u) 3072 (3072 + 2 * k.axioms)
    B i l m = rw q (concept_after (words t) k.concepts p n d h few low W i l (omega (arith, E.held.few)))

    begin : get_or (words u) (3 * k.concepts) 0 ≡ p
    begin = rw q (concept_begin (words t) k.concepts p n d h few low W)

    fields : get_or (words u) (3 * k.concepts + 1) 0 ≡ n
    fields = rw q (concept_word (words t) k.concepts p n d h few low W 1 (omega arith))

    deep : get_or (words u) (3 * k.concepts + 2) 0 ≡ d
    deep = rw q (concept_word (words t) k.concepts p n d h few low W 2 (omega arith))

    row_new : row_in s (words u) k.concepts ≡ row_at s p n
    row_new = rw (begin, fields) refl

    concepts_held : ConceptsHeld s u (k.concepts + 1)
    concepts_held =
        let c : ℕ = k.concepts in
        let H = E.held.concepts in
        record {
          room = rw long H.room;
          few = omega (arith, few);
          lines = λ i l. by_test (ltb i c)
              (λ b. let m = ltb-true i c b in rw (A (3 * i) (omega arith) (omega arith), A (3 * i + 1) (omega arith) (omega arith)) (H.lines i m))
              (λ b. let m = ltb-false i c b in let z : i ≡ c = omega arith in rw (z, begin, fields) (omega (arith, E.line)));
          rows = λ i l. by_test (ltb i c)
              (λ b. let m = ltb-true i c b in rw (row_agree s (words t) (words u) c A i m) (H.rows i m))
              (λ b. let m = ltb-false i c b in let z : i ≡ c = omega arith in rw (z, row_new) (line_row s p n (get_or (row_at s p n) 0 0) (entering_line s t p n k E e)));
          numbers = λ i l. by_test (ltb i c)
              (λ b. let m = ltb-true i c b in rw (row_agree s (words t) (words u) c A i m) (H.numbers i m))
              (λ b. let m = ltb-false i c b in let z : i ≡ c = omega arith in rw (z, row_new) E.numbers);
          depths = λ i l. by_test (ltb i c)
              (λ b. let m = ltb-true i c b in rw (A (3 * i + 2) (omega arith) (omega arith)) (H.depths i m))
              (λ b. let m = ltb-false i c b in let z : i ≡ c = omega arith in rw (z, deep, depth) (entering_depth s t p n k E e));
          index =
              indexed_more 5120 6144 (hash_in s (words t)) (hash_in s (words u)) (words t) (words u) c h H.index
              (λ i l. ap hash_of (sym (row_agree s (words t) (words u) c A i l))) (hash ∙ ap hash_of (sym row_new)) low
              (rw q (head_new (words t) c p n d h few low W)) (rw q (link_new (words t) c p n d h few low W))
              (λ g l z. rw q (head_old (words t) c p n d h few low W g l z)) (λ i l. rw q (link_old (words t) c p n d h few low W i l));
        }

    pub enter_concept_law : Entered s t u p n k (with_concept k)
    unfolding entered
    enter_concept_law =
        let c : ℕ = k.concepts in
        let H = E.held in
        record {
          after =
              rw (e, tab_more (λ i. concept_at (row_in s (words u) i)) c, concepts_agree s (words t) (words u) c A, row_new, tab_more (depth_in (words u)) c, depths_agree s (words t) (words u) c A, deep, depth, axioms_agree s (words t) (words u) k.axioms B) refl;
          held = record {
            small = H.small;
            concepts = concepts_held;
            few = H.few;
            lines = λ i l. rw (B (3072 + 2 * i) (omega arith) (omega arith), B (3072 + 2 * i + 1) (omega arith) (omega arith)) (H.lines i l);
            rows = λ i l. rw (axiom_row_agree s (words t) (words u) k.axioms B i l) (H.rows i l);
            used = rw (fields_agree s (words t) (words u) k.axioms B) (omega (arith, H.used));
            keys = H.keys;
            last_key = λ l. absurd (omega arith);
            no_key = λ l. absurd (omega arith);
          };
        }
