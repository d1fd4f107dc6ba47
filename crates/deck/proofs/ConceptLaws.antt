-- A concept line against the records. Assumes nothing.
use mathlib.Core.Path.{◌≡◌, refl, sym, ap, ap₂, ◌∙◌}
use mathlib.Core.Bool.{Bool, true, false}
use mathlib.Core.List.{List}
use mathlib.Core.Logic.{⊎_elim}
use Prim.Native.Nat.{ℕ, suc, ◌+◌, ◌-◌, ◌<◌, ◌≤◌, max}
use native.Mathlib.Omega.{arith}
use borrow.Author.Tests.{ne_eqb, le-leb, lt-leb, ltb-true, ltb-false}
use lib.Dec.{eqb, ltb, leb}
use lib.ListN.{length, get_or, drop, length-drop}
use Rattle.words.specs.Words.{words}
use Rattle.ir.specs.Pick.{pick}
use Rattle.ir.specs.Records.{same_words}
use Rattle.ir.specs.RecordLaws.{same_words_lem}
use Rattle.rules.specs.Concept.{Concept, Top, concept_row, same_concept}
use Rattle.rules.specs.Deck.{most_depth, concept_of, parts_of, depth_of, nest_ok, member_of, under_and, under_or, list_ok, members_ok, bound_ok}
use Rattle.rules.specs.DeckLaws.{all_each}
use Rattle.std.specs.Prelude.{Option, Some, None}
use Rattle.std.proofs.lemmas.Bool.{and_parts}
use Rattle.rules.specs.Base.{all, any}
use Rattle.rules.specs.Invariants.{Each}
use Rattle.rules.specs.TextLaws.{by_test}
use Rattle.rules.specs.Pool.{at}
use Rattle.rules.specs.Text.{most_number}
use Rattle.text.specs.Rows.{row_at}
use Rattle.text.specs.RowLaws.{length_row}
use Rattle.deck.specs.Index.{hash_of}
use Rattle.deck.specs.IndexLaws.{Chasing, chase_first, chase_yes, chase_less, chase_on, chase_end}
use Rattle.deck.specs.Rows.{numbers, link_word}
use Rattle.deck.specs.Records.{first_part, kind_member, under, IsList, Counted, IsConceptLine, row_in, depth_in, axiom_row_in, concept_at, axiom_at, concepts_in, depths_in, known_in, hash_in, ConceptsHeld, ConceptLine}
use Rattle.deck.specs.declared.row.Row.{Row}
use Rattle.deck.specs.declared.state.State.{State}
use Rattle.deck.specs.TabLaws.{length_tab, get_d_tab}
use Rattle.deck.proofs.KindLaws.{concept_row_lem, parts_row, member_row, members_row, bound_row}

-- the line itself
module _ (s : List ℕ) (p n j : ℕ) (L : ConceptLine s p n j) where
  pub line_row : concept_row (concept_of j (row_at s p n)) ≡ row_at s p n
  line_row = concept_row_lem (row_at s p n) j L.section L.kind (rw (length_row s p n) L.fields)

  line_kind : get_or (concept_row (concept_of j (row_at s p n))) 0 0 ≡ j
  line_kind = ap (λ (r : List ℕ). get_or r 0 0) line_row ∙ sym L.kind

  pub line_parts : parts_of (concept_of j (row_at s p n)) ≡ drop (first_part j) (row_at s p n)
  line_parts = parts_row (concept_of j (row_at s p n)) ∙ ap₂ (λ (k : ℕ) (r : List ℕ). drop (first_part k) r) line_kind line_row

  pub line_members : (q : List Concept) → members_ok q (concept_of j (row_at s p n)) ≡ pick (eqb j 7) (list_ok q under_and (drop 1 (row_at s p n))) (pick (eqb j 8) (list_ok q under_or (drop 1 (row_at s p n))) true)
  line_members q =
      members_row q (concept_of j (row_at s p n))
      ∙ ap₂ (λ (k : ℕ) (r : List ℕ). pick (eqb k 7) (list_ok q under_and (drop 1 r)) (pick (eqb k 8) (list_ok q under_or (drop 1 r)) true)) line_kind line_row

  pub line_bound : bound_ok (concept_of j (row_at s p n)) ≡ pick (eqb j 12) (ltb (get_or (row_at s p n) 1 0) most_number) true
  line_bound = bound_row (concept_of j (row_at s p n)) ∙ ap₂ (λ (k : ℕ) (r : List ℕ). pick (eqb k 12) (ltb (get_or r 1 0) most_number) true) line_kind line_row

-- the concept lines before it
module _ (s t : List ℕ) (m : ℕ) (H : ConceptsHeld s t m) (i : ℕ) (l : i < m) where
  pub depth_in_lem : get_or (depths_in (words t) m) i 0 ≡ depth_in (words t) i
  depth_in_lem = get_d_tab (depth_in (words t)) 0 m i l

  pub member_in : member_of (at (concepts_in s (words t) m) i) ≡ kind_member (get_or (row_in s (words t) i) 0 0)
  member_in =
      ap member_of (get_d_tab (λ i. concept_at (row_in s (words t) i)) Top m i l)
      ∙ member_row (concept_at (row_in s (words t) i)) ∙ ap (λ (r : List ℕ). kind_member (get_or r 0 0)) (H.rows i l)

  module _ (p n j : ℕ) (L : ConceptLine s p n j) where
    pub same_in : same_concept (concept_of j (row_at s p n)) (concept_at (row_in s (words t) i)) ≡ same_words (row_at s p n) (row_in s (words t) i)
    same_in = ap₂ same_words (line_row s p n j L) (H.rows i l)

    pub same_hash : same_concept (concept_of j (row_at s p n)) (concept_at (row_in s (words t) i)) ≡ true → hash_in s (words t) i ≡ hash_of (row_at s p n)
    same_hash e = sym (ap hash_of (same_words_lem (row_at s p n) (row_in s (words t) i) (sym same_in ∙ e)))

-- the greater of two depths
pub max_pick : (d e : ℕ) → max d e ≡ pick (ltb d e) e d
max_pick d e = by_test (ltb d e) (λ a. let l = ltb-true d e a in rw a (omega arith)) (λ a. let l = ltb-false d e a in rw a (omega arith))

-- a list of two or more
pub two_members : (r : Row) → 3 ≤ r.line.fields → leb 2 (length (drop 1 (numbers r))) ≡ true
two_members r h = let l = length-drop 1 (numbers r) in let m = length_row r.deck.now r.line.begin r.line.fields in le-leb 2 (length (drop 1 (numbers r))) (omega arith)

pub few_members : (r : Row) → r.line.fields < 3 → leb 2 (length (drop 1 (numbers r))) ≡ false
few_members r h = let l = length-drop 1 (numbers r) in let m = length_row r.deck.now r.line.begin r.line.fields in lt-leb 2 (length (drop 1 (numbers r))) (omega arith)

-- ---- the search for an equal line
abbrev pub Searching : Row → List ℕ → ℕ → ℕ → Option ℕ → Type 0
Searching r t j m o = Chasing (same_concept (concept_of j (numbers r))) (λ i. concept_at (row_in r.deck.now (words t) i)) (hash_in r.deck.now (words t)) (hash_of (numbers r)) m (link_word o)

module _ (r : Row) (t : List ℕ) (j m : ℕ) (L : IsConceptLine r j) (H : ConceptsHeld r.deck.now t m) where
  abbrev w : List ℕ
  w = words t

  abbrev equal : Concept → Bool
  equal = same_concept (concept_of j (numbers r))

  abbrev line : ℕ → Concept
  line i = concept_at (row_in r.deck.now w i)

  hashed : (i : ℕ) → i < m → equal (line i) ≡ true → hash_in r.deck.now w i ≡ hash_of (numbers r)
  hashed i l q = same_hash r.deck.now t m H i l r.line.begin r.line.fields j L q

  pub search_first : (o : Option ℕ) (g : ℕ) → g ≡ hash_of (numbers r) → g < 1024 → link_word o ≡ get_or w (5120 + g) 0 → Searching r t j m o
  search_first o g = chase_first equal line (hash_in r.deck.now w) (hash_of (numbers r)) m hashed 5120 6144 w H.index (link_word o) g

  pub search_end : Searching r t j m None → false ≡ any equal (concepts_in r.deck.now w m)
  search_end S = chase_end equal line (hash_in r.deck.now w) (hash_of (numbers r)) m 0 S refl

  module _ (i : ℕ) (S : Searching r t j m (Some i)) where
    back : suc i - 1 ≡ i
    back = omega arith

    some : suc i ≡ 0 → ⊥
    some e = absurd (omega arith)

    pub search_in : i < m
    search_in = omega (arith, S.within)

    same : equal (line i) ≡ same_words (numbers r) (row_in r.deck.now w i)
    same = same_in r.deck.now t m H i search_in r.line.begin r.line.fields j L

    pub search_yes : same_words (numbers r) (row_in r.deck.now w i) ≡ true → true ≡ any equal (concepts_in r.deck.now w m)
    search_yes e = chase_yes equal line (hash_in r.deck.now w) (hash_of (numbers r)) m hashed 5120 6144 w H.index (suc i) S some (rw back (same ∙ e))

    module _ (o : Option ℕ) (l : link_word o ≡ get_or w (6144 + i) 0) where
      linked : link_word o ≡ get_or w (6144 + (suc i - 1)) 0
      linked = rw back l

      pub search_less : link_word o < suc i
      search_less = chase_less equal line (hash_in r.deck.now w) (hash_of (numbers r)) m hashed 5120 6144 w H.index (suc i) S some (link_word o) linked

      pub search_on : same_words (numbers r) (row_in r.deck.now w i) ≡ false → Searching r t j m o
      search_on e = chase_on equal line (hash_in r.deck.now w) (hash_of (numbers r)) m hashed 5120 6144 w H.index (suc i) S some (link_word o) linked (rw back (same ∙ e))

-- ---- lists
module _ (r : Row) (j : ℕ) (L : IsConceptLine r j) (q : List Concept) where
  pub list_members : IsList j → members_ok q (concept_of j (numbers r)) ≡ list_ok q (under j) (drop 1 (numbers r))
  list_members i = line_members r.deck.now r.line.begin r.line.fields j L q ∙ ⊎_elim (λ e. rw e refl) (λ e. rw e refl) i

  pub no_members : (j ≡ 7 → ⊥) → (j ≡ 8 → ⊥) → members_ok q (concept_of j (numbers r)) ≡ true
  no_members a b = line_members r.deck.now r.line.begin r.line.fields j L q ∙ rw (ne_eqb _ _ a, ne_eqb _ _ b) refl

pub list_first : (j : ℕ) → IsList j → first_part j ≡ 1
list_first j = ⊎_elim (λ e. rw e refl) (λ e. rw e refl)

-- what is known, by the state
module _ (s t : List ℕ) (k : State) where
  pub counted_known : Counted k (known_in s t k)
  counted_known = record { header = refl; concepts = length_tab (λ i. concept_at (row_in s (words t) i)) k.concepts; axioms = length_tab (λ i. axiom_at (axiom_row_in s (words t) i)) k.axioms }

  pub nest_each : (p n j : ℕ) → ConceptLine s p n j → nest_ok (known_in s t k) (concept_of j (row_at s p n)) ≡ true → Each (λ c. c < k.concepts) (drop (first_part j) (row_at s p n))
  nest_each p n j L h =
      let m : ℕ = length (concepts_in s (words t) k.concepts) in
      let ps : List ℕ = parts_of (concept_of j (row_at s p n)) in
      let a = (and_parts (all (λ c. ltb c m) ps) (leb (depth_of (depths_in (words t) k.concepts) (concept_of j (row_at s p n))) most_depth) h).0 in
      rw (← line_parts s p n j L, ← counted_known.concepts) (all_each (λ c. ltb c m) (λ c. c < m) (λ c q. ltb-true c m q) ps a)
