-- What the steps of the load leave. Assumes nothing.
use mathlib.Core.Path.{◌≡◌, refl, sym, ap, ◌∙◌}
use mathlib.Core.Bool.{not}
use mathlib.Core.List.{List}
use Prim.Native.Nat.{ℕ, ◌+◌, ◌*◌, ◌<◌, ◌≤◌}
use native.Mathlib.Omega.{arith}
use lib.Dec.{eqb}
use lib.ListN.{length, replicate, length-replicate, get_or-replicate}
use lib.Seq.{sets, length-sets}
use Rattle.words.specs.Words.{words}
use Rattle.words.specs.Laws.{length_words}
use Rattle.words.specs.Runs.{get_d_sets_after, get_d_sets_in}
use Rattle.ir.specs.Counts.{counters}
use Rattle.ir.specs.Scratch.{keys_at, roles_at, axioms_at, numbers_at, lines_at, stack_at, hands_at}
use Rattle.ir.specs.declared.counters.Counters.{Counters}
use Rattle.rules.specs.Pool.{members}
use Rattle.deck.specs.Records as reader
use Rattle.deck.specs.TabLaws.{length_tab}
use Rattle.deck.specs.declared.state.State.{State}
use Rattle.pool.specs.Layout.{pool_words, heads_at, tab}
use Rattle.pool.specs.Held.{Held}
use Rattle.pool.specs.HeldLaws.{held_none}
use Rattle.pool.specs.Answers.{sized}
use Rattle.ontology.specs.Layout.{axioms_of, AxiomsHeld, KeysHeld}
use Rattle.ontology.specs.Lines.{Kept, table_in, table_of, Accepted, started, ConceptRead, Pooled, AxiomRead}
use Rattle.ontology.specs.Loads.{begin, Holds}
use Rattle.ontology.proofs.TableLaws.{table_words_lem, table_kept}
use Rattle.ontology.proofs.PoolLaws.{pool_left, held_left}
use Rattle.ontology.proofs.ReadLaws.{concept_read, axiom_read, axioms_fit}

-- no concept line yet
pooled_none : (s v w : List ℕ) (st : State) (limit : ℕ) (k : Counters) → k ≡ started st limit → Held w 0 0 → Pooled s v k 0 w w k
unfolding tab reader.tab members
pooled_none s v w st limit k e H = rw e record { counters = refl; held = H; pool = refl; kept = λ j a b. refl }

-- the counters once all concept lines are in the pool
begin_is : (s t : List ℕ) (st : State) (limit : ℕ) → sized (started st limit) (reader.concepts_in s (words t) st.concepts) ≡ begin (reader.known_in s t st) limit
begin_is s t st limit =
    let a : length (reader.keys_in s st.marks st.keys) ≡ st.keys = length_tab (reader.key_in s st.marks) st.keys in
    let b : length (reader.concepts_in s (words t) st.concepts) ≡ st.concepts = length_tab (λ i. reader.concept_at (reader.row_in s (words t) i)) st.concepts in
    let q : st.keys + st.concepts + 2 ≡ 2 + length (reader.keys_in s st.marks st.keys) + length (reader.concepts_in s (words t) st.concepts) + 0 = omega arith in
    ap (λ (l : ℕ). counters 0 limit (length (reader.concepts_in s (words t) st.concepts)) (members (reader.concepts_in s (words t) st.concepts)) 1 (st.classes + st.individuals) 0 0 0 l st.classes st.options) q

keys_left : (w w' l : List ℕ) → Kept 0 axioms_at w w' → KeysHeld w l → KeysHeld w' l
keys_left w w' l K H = record { marked = λ a h. ap (λ (x : ℕ). not (eqb x 0)) (K (keys_at + a) (omega arith) (omega arith)) ∙ H.marked a h }

module _ (s S : List ℕ) (st : State) (limit : ℕ) (room : 4 * hands_at ≤ length S) (A : Accepted s (table_in S) st) where
  abbrev v : List ℕ
  v = words (table_in S)

  -- the index of the pool is empty
  module _ (S₁ : List ℕ) (clear : words S₁ ≡ sets (words S) heads_at (replicate 2048 0)) where
    zeros : length {A = ℕ} (replicate 2048 0) ≡ 2048
    zeros = length-replicate {0} {A = ℕ} 2048 0

    long : hands_at ≤ length (words S)
    long = rw (length_words S) (omega arith)

    table₁ : table_of (words S₁) ≡ v
    table₁ =
        table_kept lines_at stack_at (words S) (words S₁) (omega arith) (omega arith) (λ j a b. rw clear (get_d_sets_after (replicate 2048 0) (words S) heads_at j 0 (omega (arith, zeros))))
        ∙ sym (table_words_lem S (omega arith))

    pub load_read : (i : ℕ) → i < st.concepts → ConceptRead s (table_of (words S₁)) i
    load_read i l = rw table₁ (concept_read s (table_in S) st A i l)

    pub load_none : (k : Counters) → k ≡ started st limit → Pooled s (table_of (words S₁)) k 0 (words S₁) (words S₁) k
    load_none k e =
        pooled_none s (table_of (words S₁)) (words S₁) st limit k e
        (held_none (words S₁) (rw (clear, length-sets (words S) heads_at (replicate 2048 0)) (omega (arith, long)))
        (λ h l. rw clear (get_d_sets_in (replicate 2048 0) (words S) heads_at h 0 (omega (arith, zeros)) (omega (arith, zeros, long)) ∙ get_or-replicate {0} {A = ℕ} 2048 h 0 0 l)))

    -- the concepts are in the pool
    module _ (w₂ : List ℕ) (k₀ k : Counters) (first : k₀ ≡ started st limit) (P : Pooled s (table_of (words S₁)) k₀ st.concepts (words S₁) w₂ k) where
      table₂ : table_of w₂ ≡ v
      table₂ = table_kept pool_words stack_at (words S₁) w₂ (omega arith) (omega arith) P.kept ∙ table₁

      -- the key marks are set
      module _ (w₃ : List ℕ) (before : Kept 0 keys_at w₂ w₃) (behind : Kept roles_at stack_at w₂ w₃) where
        table₃ : table_of w₃ ≡ v
        table₃ = table_kept roles_at stack_at w₂ w₃ (omega arith) (omega arith) behind ∙ table₂

        pub load_axiom_read : (i : ℕ) → i < st.axioms → AxiomRead s (table_of w₃) i
        load_axiom_read i l = rw table₃ (axiom_read s (table_in S) st A i l)

        pub load_axioms_fit : numbers_at + reader.sum (reader.axiom_fields (table_of w₃)) st.axioms ≤ lines_at
        load_axioms_fit = rw table₃ (axioms_fit s (table_in S) st A)

        -- and the axioms are there
        pub load_holds : (w₄ : List ℕ) → KeysHeld w₃ (reader.keys_in s st.marks st.keys) → AxiomsHeld w₄ st.axioms
            → axioms_of w₄ st.axioms ≡ reader.axioms_in s (table_of w₃) st.axioms → Kept 0 axioms_at w₃ w₄ → length w₄ ≡ length w₂ → Holds (reader.known_in s (table_in S) st) limit w₄ k st.axioms
        load_holds w₄ K H e low size =
            let kept : Kept 0 pool_words w₂ w₄ = λ j a b. low j a (omega arith) ∙ before j a (omega arith) in
            record {
              counters = P.counters ∙ rw (first, table₁) (begin_is s (table_in S) st limit);
              held = held_left w₂ w₄ k.concepts k.members P.held kept size;
              pool = pool_left w₂ w₄ k.concepts k.members P.held kept ∙ P.pool ∙ rw table₁ refl;
              count = sym (length_tab (λ i. reader.axiom_at (reader.axiom_row_in s v i)) st.axioms);
              lines = H;
              axioms = e ∙ rw table₃ refl;
              keys = keys_left w₃ w₄ (reader.keys_in s st.marks st.keys) low K;
            }
