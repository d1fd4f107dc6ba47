-- What an accepted deck's lines are known to be. Assumes nothing.
use mathlib.Core.Path.{◌≡◌, refl, sym, ap₂, subst, ◌∙◌}
use mathlib.Core.Bool.{Bool, false, true≢false}
use mathlib.Core.List.{List}
use mathlib.Core.Option.{Option, none, some}
use Prim.Native.Nat.{ℕ, zero, suc, ◌+◌, ◌<◌, ◌≤◌}
use native.Mathlib.Omega.{arith}
use borrow.Author.Tests.{ltb-true, ltb-false}
use lib.Dec.{ltb}
use lib.ListN.{length}
use Rattle.words.specs.Words.{words}
use Rattle.ir.specs.Scratch.{numbers_at, lines_at}
use Rattle.rules.specs.Base.{any, is_some}
use Rattle.rules.specs.Concept.{Concept, Top, concept_row, same_concept}
use Rattle.rules.specs.Pool.{at, find, members}
use Rattle.rules.specs.Deck.{most_classes, Known}
use Rattle.rules.specs.DeckLaws.{DeckIn, bounds_of, same_words_sym, members_few, read_in}
use Rattle.rules.specs.EachLaws.{each_map}
use Rattle.rules.specs.Invariants.{Each, Bounded}
use Rattle.rules.specs.TextLaws.{by_test}
use Rattle.rules.specs.DepthLaws.{parts_below}
use Rattle.rules.specs.PoolLaws.{members_snoc}
use Rattle.deck.specs.Records as reader
use Rattle.deck.specs.TabLaws.{length_tab, get_d_tab, any_more}
use Rattle.deck.specs.declared.state.State.{State}
use Rattle.pool.specs.AnswerLaws.{find_any}
use Rattle.ontology.specs.Lines.{Accepted, Declared, ConceptRead, AxiomRead}

-- ---- tabulated concepts
none_is : (o : Option ℕ) → is_some o ≡ false → o ≡ none
none_is none h = refl
none_is (some i) h = absurd (true≢false h)

any_none : {A : Type 0} (p : A → Bool) (f : ℕ → A) (n : ℕ) → ((i : ℕ) → i < n → p (f i) ≡ false) → any p (reader.tab f n) ≡ false
unfolding reader.tab
any_none p f zero h = refl
any_none p f (suc n) h = any_more f p n ∙ rw (any_none p f n (λ i l. h i (omega arith)), h n (omega arith)) refl

find_none : (e : Concept) (f : ℕ → Concept) (n : ℕ) → ((i : ℕ) → i < n → same_concept e (f i) ≡ false) → find e (reader.tab f n) ≡ none
find_none e f n h = none_is (find e (reader.tab f n)) (find_any e (reader.tab f n) ∙ any_none (same_concept e) f n h)

members_rise : (f : ℕ → Concept) (i n : ℕ) → i ≤ n → members (reader.tab f i) ≤ members (reader.tab f n)
unfolding reader.tab
members_rise f i zero h = let e : i ≡ 0 = omega arith in rw e (omega arith)
members_rise f i (suc n) h = by_test (ltb i (suc n))
    (λ a. let b = ltb-true i (suc n) a in omega (arith, members_rise f i n (omega arith), members_snoc (reader.tab f n) (f n)))
    (λ a. let b = ltb-false i (suc n) a in let q : i ≡ suc n = omega arith in rw q (omega arith))

-- ---- the deck
module _ (s t : List ℕ) (k : State) (A : Accepted s t k) where
  abbrev d : Known
  d = reader.known_in s t k

  abbrev f : ℕ → Concept
  f i = reader.concept_at (reader.row_in s (words t) i)

  D : DeckIn d
  D = read_in s d A.read

  pub declared : Declared k
  declared = record {
    classes = D.classes;
    individuals = D.individuals;
    options = D.options;
    keys = omega (arith, A.held.keys, A.held.small);
    concepts = A.held.concepts.few;
  }

  at_is : (i : ℕ) → i < k.concepts → at d.concepts i ≡ f i
  at_is i l = get_d_tab f Top k.concepts i l

  inside : (i : ℕ) → i < k.concepts → i < length d.concepts
  inside i l = rw (length_tab f k.concepts) l

  apart : (i j : ℕ) → j < i → i < k.concepts → same_concept (f i) (f j) ≡ false
  apart i j l h =
      same_words_sym (concept_row (f i)) (concept_row (f j))
      ∙ ap₂ same_concept (sym (at_is j (omega arith))) (sym (at_is i h)) ∙ D.distinct j i l (inside i h)

  pub concept_read : (i : ℕ) → i < k.concepts → ConceptRead s (words t) i
  concept_read i l =
      let H = A.held.concepts in
      record {
        few = omega (arith, H.few);
        line = record { small = A.held.small; within = H.lines i l; numbers = H.numbers i l };
        row = H.rows i l;
        below = parts_below (bounds_of d) i (f i) (subst (Bounded (bounds_of d) i) (at_is i l) (D.wf i (inside i l)));
        fresh = find_none (f i) f i (λ j h. apart i j h l);
        space = omega (arith, members_rise f (i + 1) k.concepts (omega arith), members_few d D);
      }

  pub axiom_read : (i : ℕ) → i < k.axioms → AxiomRead s (words t) i
  axiom_read i l = record {
    few = omega (arith, A.held.few);
    line = record { small = A.held.small; within = A.held.lines i l; numbers = (A.held.rows i l).numbers };
    row = A.held.rows i l;
  }

  pub axioms_fit : numbers_at + reader.sum (reader.axiom_fields (words t)) k.axioms ≤ lines_at
  axioms_fit = omega (arith, A.held.used, A.held.small)

  pub keys_few : Each (λ a. a < most_classes) d.keys
  keys_few = each_map (λ a. a < d.header.classes) (λ a. a < most_classes) (λ a h. omega (arith, D.classes)) d.keys D.keys
