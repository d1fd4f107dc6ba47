-- Concept lines one by one into the pool. Assumes nothing.
use mathlib.Core.Path.{◌≡◌, refl, sym, ap, ◌∙◌}
use mathlib.Core.List.{List, [], ◌∷◌, ◌++◌}
use mathlib.Core.Option.{none}
use Prim.Native.Nat.{ℕ, ◌+◌, ◌*◌, ◌<◌, ◌≤◌}
use native.Mathlib.Omega.{arith}
use lib.ListN.{length, get_or}
use lib.Seq.{sets, length-sets}
use Rattle.words.specs.Words.{words}
use Rattle.words.specs.Laws.{length_words}
use Rattle.words.specs.Runs.{get_d_sets_before, get_d_sets_in}
use Rattle.ir.specs.Counts.{interned}
use Rattle.ir.specs.Scratch.{stack_at, hands_at}
use Rattle.ir.specs.declared.counters.Counters.{Counters}
use Rattle.rules.specs.Concept.{Concept, concept_row}
use Rattle.rules.specs.Pool.{Pool, most_concepts, most_members, find, width, members}
use Rattle.rules.specs.Deck.{parts_of}
use Rattle.rules.specs.Invariants.{Each}
use Rattle.rules.specs.PoolLaws.{members_snoc}
use Rattle.text.specs.Rows.{row_at}
use Rattle.text.specs.RowLaws.{length_row}
use Rattle.deck.specs.Records as reader
use Rattle.deck.specs.TabLaws.{length_tab, tab_more}
use Rattle.pool.specs.declared.record.Record.{Record}
use Rattle.pool.specs.Layout.{pool_words, members_at, heads_at, run, count_of, concept_over, pool_of, plain}
use Rattle.pool.specs.Tabs.{run_is}
use Rattle.pool.specs.Shapes.{count_plain}
use Rattle.pool.specs.Held.{Held, Ready, Asked}
use Rattle.pool.specs.HeldLaws.{Same, pool_same, held_same, word_above}
use Rattle.pool.specs.Answers.{sized, Added}
use Rattle.deck.specs.declared.row.Line.{Line}
use Rattle.ontology.specs.Lines.{Kept, table_of, concept_line, record_for, ConceptRead, Pooled}
use Rattle.ontology.proofs.ConceptLaws.{width_row, record_is, concept_is}

-- ---- a pool whose words were left alone
module _ (w w' : List ℕ) (n m : ℕ) (H : Held w n m) (K : Kept 0 pool_words w w') where
  same_left : Same w w' n m
  same_left = record {
    records = λ i l. K i (omega arith) (omega (arith, H.few));
    members = λ i l. K (members_at + i) (omega arith) (omega (arith, H.space));
  }

  pub pool_left : pool_of w' n ≡ pool_of w n
  pool_left = pool_same w w' n m H same_left n (omega arith)

  pub held_left : length w' ≡ length w → Held w' n m
  held_left l = held_same w w' n m H same_left l (λ h g. K (heads_at + h) (omega arith) (omega arith))

-- ---- line i
module _ (s v : List ℕ) (i : ℕ) (C : ConceptRead s v i) where
  pub line_few : get_or v (3 * i + 1) 0 ≤ 5957
  line_few = omega (arith, C.line.within, C.line.small)

  row_long : length (reader.row_in s v i) ≡ get_or v (3 * i + 1) 0
  row_long = length_row s (get_or v (3 * i) 0) (get_or v (3 * i + 1) 0)

  pub line_some : 0 < get_or v (3 * i + 1) 0
  line_some = omega (arith, row_long, ap length C.row, width_row (reader.concept_at (reader.row_in s v i)))

-- its row is put on the stack: of scratch's bytes S it makes S₁
pub record OnStack (s S : List ℕ) (k : Counters) (i : ℕ) (l : Line) (S₁ : List ℕ) : Type 0 where
  pub room : 4 * hands_at ≤ length S
  pub read : ConceptRead s (table_of (words S)) i
  pub pooled : Pooled s (table_of (words S)) k i (words S) (words S) k
  pub line : l ≡ concept_line (table_of (words S)) i
  pub size : length S₁ ≡ length S
  pub put : words S₁ ≡ sets (words S) stack_at (row_at s l.begin l.fields)

module _ (s S : List ℕ) (k : Counters) (i : ℕ) (l : Line) (S₁ : List ℕ) (O : OnStack s S k i l S₁) where
  abbrev v : List ℕ
  v = table_of (words S)

  abbrev r : List ℕ
  r = reader.row_in s v i

  abbrev e : Concept
  e = reader.concept_at r

  abbrev n : ℕ
  n = get_or v (3 * i + 1) 0

  C : ConceptRead s v i
  C = O.read

  P : Pooled s v k i (words S) (words S) k
  P = O.pooled

  put : words S₁ ≡ sets (words S) stack_at r
  put = rw O.line at O.put

  few : n ≤ 5957
  few = line_few s v i C

  long : length r ≡ n
  long = row_long s v i C

  words_long : hands_at ≤ length (words S)
  words_long = rw (length_words S) (omega (arith, O.room))

  words_size : length (words S₁) ≡ length (words S)
  words_size = ap length put ∙ length-sets (words S) stack_at r

  row_words : run (words S₁) stack_at n ≡ concept_row e
  row_words =
      ap (run (words S₁) stack_at) (sym long)
      ∙ run_is (words S₁) stack_at r (λ j l. rw put (get_d_sets_in r (words S) stack_at j 0 l (omega (arith, words_long, long, few)))) ∙ sym C.row

  low : Kept 0 stack_at (words S) (words S₁)
  low j a b = rw put (get_d_sets_before r (words S) stack_at j 0 b)

  pool_words_lem : Kept 0 pool_words (words S) (words S₁)
  pool_words_lem j a b = low j a (omega arith)

  concepts_are : k.concepts ≡ i
  concepts_are = ap (λ (j : Counters). j.concepts) P.counters ∙ length_tab (λ j. reader.concept_at (reader.row_in s v j)) i

  members_are : k.members ≡ members (reader.concepts_in s v i)
  members_are = ap (λ (j : Counters). j.members) P.counters

  concepts_more : reader.concepts_in s v (i + 1) ≡ reader.concepts_in s v i ++ (e ∷ [])
  concepts_more = tab_more (λ j. reader.concept_at (reader.row_in s v j)) i

  pool_old : pool_of (words S₁) k.concepts ≡ reader.concepts_in s v i
  pool_old = pool_left (words S) (words S₁) k.concepts k.members P.held pool_words_lem ∙ P.pool

  pub line_ready : Ready S₁ k
  line_ready = record {
    room = omega (arith, O.room, O.size);
    held = held_left (words S) (words S₁) k.concepts k.members P.held pool_words_lem words_size;
  }

  module _ (x : Record) (made : x ≡ record_for (get_or (words S₁) stack_at 0) (get_or (words S₁) (stack_at + 1) 0) (get_or (words S₁) (stack_at + 2) 0) (get_or (words S₁) (stack_at + 3) 0) l.fields) where
    is_plain : x ≡ plain e
    is_plain = made ∙ rw O.line (record_is (words S₁) stack_at n e row_words)

    is_concept : concept_over (words S₁) (stack_at + 1) x ≡ e
    is_concept = ap (concept_over (words S₁) (stack_at + 1)) is_plain ∙ concept_is (words S₁) stack_at n e row_words

    count_is : count_of x ≡ width e
    count_is = ap count_of is_plain ∙ count_plain e

    members_new : k.members + count_of x ≡ members (reader.concepts_in s v (i + 1))
    members_new =
        ap (λ (j : ℕ). j + count_of x) members_are ∙ ap (λ (j : ℕ). members (reader.concepts_in s v i) + j) count_is
        ∙ sym (ap members concepts_more ∙ members_snoc (reader.concepts_in s v i) e)

    concepts_new : k.concepts + 1 ≡ length (reader.concepts_in s v (i + 1))
    concepts_new = ap (λ (j : ℕ). j + 1) concepts_are ∙ sym (length_tab (λ j. reader.concept_at (reader.row_in s v j)) (i + 1))

    pub line_asked : Asked S₁ x (stack_at + 1)
    line_asked = record {
      plain = ap plain is_concept ∙ sym is_plain;
      within = omega (arith, count_is, width_row e, ap length C.row, long, few, O.room, O.size);
    }

    pub line_space : (k.concepts < most_concepts) × (k.members + count_of x ≤ most_members)
    line_space = (omega (arith, concepts_are, C.few), rw members_new C.space)

    pub line_below : Each (λ d. d < k.concepts) (parts_of (concept_over (words S₁) (stack_at + 1) x))
    line_below = rw (is_concept, concepts_are) C.below

    pub line_fresh : find (concept_over (words S₁) (stack_at + 1) x) (pool_of (words S₁) k.concepts) ≡ none
    line_fresh = rw (is_concept, pool_old) C.fresh

    pub line_pooled : (w' : List ℕ) → Added k (count_of x) (concept_over (words S₁) (stack_at + 1) x) (words S₁) w' → (k' : Counters) → k' ≡ interned (count_of x) k → Pooled s v k (i + 1) (words S) w' k'
    line_pooled w' A k' q = record {
      counters = q ∙ rw (concepts_new, members_new) refl;
      held = rw q A.held;
      pool = rw q (A.pool ∙ rw (pool_old, is_concept) (sym concepts_more));
      kept = λ j a b. word_above pool_words (words S₁) w' A.frame j a ∙ low j (omega arith) b;
    }

-- ---- one line behind another
module _ (s v : List ℕ) (k₀ : Counters) (i : ℕ) (w₀ w : List ℕ) (k : Counters) (P : Pooled s v k₀ i w₀ w k) (q : table_of w ≡ v) where
  again : (p : Pool) → sized k p ≡ sized k₀ p
  again p = ap (λ (j : Counters). sized j p) P.counters

  pub pooled_here : Pooled s (table_of w) k i w w k
  pooled_here = rw q record {
    counters = P.counters ∙ sym (again (reader.concepts_in s v i));
    held = P.held;
    pool = P.pool;
    kept = λ j a b. refl;
  }

  pub pooled_next : (w' : List ℕ) (k' : Counters) → Pooled s (table_of w) k (i + 1) w w' k' → Pooled s v k₀ (i + 1) w₀ w' k'
  pooled_next w' k' N =
      let N : Pooled s v k (i + 1) w w' k' = rw q at N in
      record {
        counters = N.counters ∙ again (reader.concepts_in s v (i + 1));
        held = N.held;
        pool = N.pool;
        kept = λ j a b. N.kept j a b ∙ P.kept j a b;
      }
