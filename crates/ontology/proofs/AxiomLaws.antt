-- Axiom lines one by one into scratch. Assumes nothing.
use mathlib.Core.Path.{◌≡◌, refl, sym, ap, ap₂, ◌∙◌}
use mathlib.Core.List.{List, [], ◌∷◌}
use Prim.Native.Nat.{ℕ, zero, suc, ◌+◌, ◌*◌, ◌<◌, ◌≤◌}
use native.Mathlib.Nat.{zero-add}
use native.Mathlib.Omega.{arith}
use borrow.Author.Tests.{ltb-true, ltb-false}
use lib.Dec.{ltb}
use lib.ListN.{length, get_or, set}
use lib.Seq.{sets, length-sets}
use Rattle.words.specs.Runs.{get_d_sets_before, get_d_sets_after, get_d_sets_in}
use Rattle.ir.specs.Scratch.{axioms_at, numbers_at, lines_at, stack_at}
use Rattle.rules.specs.Deck.{most_axioms, section_of, axiom_of}
use Rattle.rules.specs.TextLaws.{by_test}
use Rattle.text.specs.Rows.{row_at}
use Rattle.text.specs.RowLaws.{length_row}
use Rattle.deck.specs.Records as reader
use Rattle.deck.specs.TabLaws.{sum_more, sum_rise}
use Rattle.pool.specs.Layout.{tab, run}
use Rattle.pool.specs.Tabs.{get_d_tab, tab_snoc, tab_same, run_is}
use Rattle.deck.specs.declared.row.Line.{Line}
use Rattle.ontology.specs.Layout.{axiom_start, axiom_count, axiom_number, axiom_row, axiom_at, axioms_of, AxiomsHeld}
use Rattle.ontology.specs.Lines.{Kept, axiom_line, AxiomRead, axiom_put}

-- ---- one axiom
-- the stores in their order, of the line l
pub axiom_stores : (s v : List ℕ) (i at : ℕ) (l : Line) → l ≡ axiom_line v i → (w x y z : List ℕ) → x ≡ set w (axioms_at + 2 * i) at → y ≡ set x (axioms_at + 2 * i + 1) l.fields → z ≡ sets y (numbers_at + at) (row_at s l.begin l.fields)
    → z ≡ axiom_put w i at (reader.axiom_row_in s v i)
axiom_stores s v i at l e w x y z f g h =
    let q : axioms_at + 2 * i + 1 ≡ suc (axioms_at + 2 * i) = omega arith in
    h ∙ rw (g, f, q, e, length_row s (get_or v (reader.axioms_at + 2 * i) 0) (reader.axiom_fields v i)) refl

-- the numbers r of axiom i are there
pub record Stored (w : List ℕ) (i at : ℕ) (r : List ℕ) : Type 0 where
  pub start : axiom_start w i ≡ at
  pub count : axiom_count w i ≡ length r
  pub numbers : run w (numbers_at + at) (length r) ≡ r

module _ (w : List ℕ) (i at : ℕ) (r : List ℕ) (few : i < most_axioms) (long : lines_at ≤ length w) (fits : numbers_at + at + length r ≤ lines_at) where
  abbrev two : List ℕ
  two = at ∷ length r ∷ []

  abbrev x : List ℕ
  x = sets w (axioms_at + 2 * i) two

  abbrev w' : List ℕ
  w' = axiom_put w i at r

  x_long : length x ≡ length w
  x_long = length-sets w (axioms_at + 2 * i) two

  pub put_size : length w' ≡ length w
  put_size = length-sets x (numbers_at + at) r ∙ x_long

  pub put_before : Kept 0 axioms_at w w'
  put_before j a b = get_d_sets_before r x (numbers_at + at) j 0 (omega arith) ∙ get_d_sets_before two w (axioms_at + 2 * i) j 0 (omega arith)

  pub put_behind : Kept lines_at stack_at w w'
  put_behind j a b = get_d_sets_after r x (numbers_at + at) j 0 (omega arith) ∙ get_d_sets_after two w (axioms_at + 2 * i) j 0 (omega arith)

  pub put_new : Stored w' i at r
  put_new =
      let z : axioms_at + 2 * i ≡ axioms_at + 2 * i + 0 = omega arith in
      record {
        start = get_d_sets_before r x (numbers_at + at) (axioms_at + 2 * i) 0 (omega arith) ∙ ap (λ (j : ℕ). get_or x j 0) z ∙ get_d_sets_in two w (axioms_at + 2 * i) 0 0 (omega arith) (omega arith);
        count = get_d_sets_before r x (numbers_at + at) (axioms_at + 2 * i + 1) 0 (omega arith) ∙ get_d_sets_in two w (axioms_at + 2 * i) 1 0 (omega arith) (omega arith);
        numbers = run_is w' (numbers_at + at) r (λ j l. get_d_sets_in r x (numbers_at + at) j 0 l (omega (arith, x_long)));
      }

  -- an earlier one
  pub put_old : (j a : ℕ) (q : List ℕ) → j < i → a + length q ≤ at → Stored w j a q → Stored w' j a q
  put_old j a q l h S = record {
    start = get_d_sets_before r x (numbers_at + at) (axioms_at + 2 * j) 0 (omega arith) ∙ get_d_sets_before two w (axioms_at + 2 * i) (axioms_at + 2 * j) 0 (omega arith) ∙ S.start;
    count = get_d_sets_before r x (numbers_at + at) (axioms_at + 2 * j + 1) 0 (omega arith) ∙ get_d_sets_before two w (axioms_at + 2 * i) (axioms_at + 2 * j + 1) 0 (omega arith) ∙ S.count;
    numbers = tab_same (λ k. get_or w' k 0) (λ k. get_or w k 0) (numbers_at + a) (numbers_at + a) (length q)
        (λ k b. get_d_sets_before r x (numbers_at + at) (numbers_at + a + k) 0 (omega arith) ∙ get_d_sets_after two w (axioms_at + 2 * i) (numbers_at + a + k) 0 (omega arith)) ∙ S.numbers;
  }

-- ---- one behind another
-- the first i lines, by the table's words v; what stands before the axioms, and the table, were left alone
pub record Storing (s v w₀ : List ℕ) (i at : ℕ) (w : List ℕ) : Type 0 where
  pub place : at ≡ reader.sum (reader.axiom_fields v) i
  pub size : length w ≡ length w₀
  pub before : Kept 0 axioms_at w₀ w
  pub behind : Kept lines_at stack_at w₀ w
  pub rows : (j : ℕ) → j < i → Stored w j (reader.sum (reader.axiom_fields v) j) (reader.axiom_row_in s v j)

module _ (s v : List ℕ) where
  abbrev f : ℕ → ℕ
  f = reader.axiom_fields v

  row_long : (i : ℕ) → length (reader.axiom_row_in s v i) ≡ f i
  row_long i = length_row s (get_or v (reader.axioms_at + 2 * i) 0) (f i)

  pub storing_first : (w : List ℕ) → Storing s v w 0 0 w
  unfolding reader.sum
  storing_first w = record { place = refl; size = refl; before = λ j a b. refl; behind = λ j a b. refl; rows = λ j l. absurd (omega arith) }

  -- where the lines before line i end
  up_to_lem : (j i : ℕ) → j < i → reader.sum f j + f j ≤ reader.sum f i
  up_to_lem j i l = omega (arith, sum_more f j, sum_rise f (j + 1) i (omega arith))

  pub storing_fits : (n i at : ℕ) → i < n → at ≡ reader.sum f i → numbers_at + reader.sum f n ≤ lines_at → numbers_at + at + f i ≤ lines_at
  storing_fits n i at l e h = omega (arith, up_to_lem i n l)

  module _ (w₀ : List ℕ) (i at : ℕ) (w : List ℕ) (S : Storing s v w₀ i at w) (few : i < most_axioms) (long : lines_at ≤ length w₀) (fits : numbers_at + at + f i ≤ lines_at) where
    abbrev r : List ℕ
    r = reader.axiom_row_in s v i

    pub storing_next : (at' : ℕ) (w' : List ℕ) → at' ≡ at + f i → w' ≡ axiom_put w i at r → Storing s v w₀ (i + 1) at' w'
    storing_next at' w' e q =
        let m : lines_at ≤ length w = omega (arith, S.size) in
        let g : numbers_at + at + length r ≤ lines_at = omega (arith, row_long i) in
        rw q record {
          place = e ∙ ap (λ (j : ℕ). j + f i) S.place ∙ sym (sum_more f i);
          size = put_size w i at r few m g ∙ S.size;
          before = λ j a b. put_before w i at r few m g j a b ∙ S.before j a b;
          behind = λ j a b. put_behind w i at r few m g j a b ∙ S.behind j a b;
          rows = λ j l. by_test (ltb j i)
              (λ a. let b = ltb-true j i a in put_old w i at r few m g j (reader.sum f j) (reader.axiom_row_in s v j) b (omega (arith, row_long j, up_to_lem j i b, S.place)) (S.rows j b))
              (λ a. let b = ltb-false j i a in let z : j ≡ i = omega arith in rw (z, ← S.place) (put_new w i at r few m g));
        }

-- ---- all of them
tabs : {A : Type 0} (f g : ℕ → A) (n : ℕ) → ((i : ℕ) → i < n → f i ≡ g i) → tab f 0 n ≡ reader.tab g n
unfolding tab reader.tab
tabs f g zero h = refl
tabs f g (suc n) h = tab_snoc f 0 n ∙ rw (zero-add n, tabs f g n (λ i l. h i (omega arith)), h n (omega arith)) refl

some_row : (r : List ℕ) → section_of (get_or r 0 0) ≡ 4 → 0 < length r
some_row [] h = absurd (omega arith)
some_row (x ∷ r) h = omega arith

few_all : (n : ℕ) → ((i : ℕ) → i < n → i < most_axioms) → n ≤ most_axioms
few_all zero h = omega arith
few_all (suc n) h = h n (omega arith)

module _ (s v w₀ : List ℕ) (n at : ℕ) (w : List ℕ) (S : Storing s v w₀ n at w) (R : (i : ℕ) → i < n → AxiomRead s v i) (fits : numbers_at + reader.sum (reader.axiom_fields v) n ≤ lines_at) where
  start_is : (i : ℕ) → i < n → axiom_start w i ≡ reader.sum (reader.axiom_fields v) i
  start_is i l = (S.rows i l).start

  count_is : (i : ℕ) → i < n → axiom_count w i ≡ reader.axiom_fields v i
  count_is i l = (S.rows i l).count ∙ row_long s v i

  row_is : (i : ℕ) → i < n → axiom_row w i ≡ reader.axiom_row_in s v i
  row_is i l = ap₂ (λ (a b : ℕ). run w (numbers_at + a) b) (start_is i l) (S.rows i l).count ∙ (S.rows i l).numbers

  number_is : (i : ℕ) → i < n → axiom_number w i 0 ≡ get_or (reader.axiom_row_in s v i) 0 0
  number_is i l =
      let c : 0 < axiom_count w i = rw (S.rows i l).count (some_row (reader.axiom_row_in s v i) (R i l).row.section) in
      sym (get_d_tab (λ j. get_or w j 0) 0 (numbers_at + axiom_start w i) (axiom_count w i) 0 c) ∙ ap (λ (r : List ℕ). get_or r 0 0) (row_is i l)

  pub axioms_held : AxiomsHeld w n
  axioms_held = record {
    few = few_all n (λ i l. (R i l).few);
    within = λ i l. omega (arith, start_is i l, count_is i l, up_to_lem s v i n l);
    apart = λ i j l h. omega (arith, start_is i (omega arith), count_is i (omega arith), start_is j h, up_to_lem s v i j l);
    kinds = λ i l. rw (number_is i l) (R i l).row.section;
    fields = λ i l. rw (number_is i l, (S.rows i l).count) (R i l).row.fields;
  }

  pub axioms_are : axioms_of w n ≡ reader.axioms_in s v n
  axioms_are = tabs (axiom_at w) (λ i. reader.axiom_at (reader.axiom_row_in s v i)) n (λ i l. ap₂ axiom_of (number_is i l) (row_is i l))
