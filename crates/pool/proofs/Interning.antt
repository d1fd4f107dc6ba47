-- Interning: the ways out, each from the tests that lead there. Assumes nothing.
use mathlib.Core.Path.{◌≡◌, refl, sym, ap, subst, ◌∙◌}
use mathlib.Core.Bool.{Bool, true, false}
use mathlib.Core.List.{List, [], ◌∷◌, ◌++◌}
use mathlib.Core.Option.{Option, none, some}
use Prim.{tt}
use Prim.Native.Nat.{ℕ, zero, suc, ◌+◌, ◌<◌, ◌≤◌}
use native.Mathlib.Omega.{arith}
use native.Mathlib.Numerals.{add-one}
use lib.ListN.{length, take, drop, length-append}
use lib.Seq.{sets}
use borrow.Author.Tests.{lt-ltb, le-ltb, le-leb, lt-leb}
use Rattle.ir.specs.Counts.{interned as interned_counters}
use Rattle.ir.specs.declared.counters.Counters.{Counters}
use Rattle.ir.specs.Answer.{Done, Refused}
use Rattle.rules.specs.Base.{ok}
use Rattle.rules.specs.Concept.{Concept}
use Rattle.rules.specs.Pool.{Pool, most_concepts, most_members, found_in, find, width, intern_raw}
use Rattle.rules.specs.Concept.{same_concept}
use Rattle.rules.specs.Deck.{parts_of}
use Rattle.rules.specs.Invariants.{Each}
use Rattle.rules.specs.PoolLaws.{members_snoc}
use Rattle.pool.specs.declared.record.Record.{Record}
use Rattle.pool.specs.Layout.{members_at, run, count_of, concept_over, pool_of, plain, listed, starts_at, record_put, concept_put}
use Rattle.pool.specs.Index.{record_hash, hash_by}
use Rattle.pool.specs.Held.{Held}
use Rattle.pool.specs.Answers.{drawn, sized, after, shown, Interned, Added}
use Rattle.pool.specs.Tabs.{run_part}
use Rattle.pool.specs.Shapes.{count_plain, listed_over}
use Rattle.pool.specs.HeldLaws.{pool_length}
use Rattle.pool.specs.PutLaws.{pool_put, held_put, frame_put}
use Rattle.pool.proofs.Chain.{hash_over}
use Rattle.pool.specs.AnswerLaws.{sized_same}

-- ---- one concept more
module _ (w : List ℕ) (k : Counters) (i : ℕ) (x : Record) (p : plain (concept_over w i x) ≡ x) where
  pub width_over : width (concept_over w i x) ≡ count_of x
  width_over = sym (count_plain (concept_over w i x)) ∙ ap count_of p

  -- what the code writes
  put_is : (h : ℕ) (w1 w' : List ℕ) → i + count_of x ≤ length w → w1 ≡ sets w (members_at + k.members) (take (count_of x) (drop i w))
      → w' ≡ record_put w1 k.concepts h (starts_at k.members x) (k.members + count_of x)
      → w' ≡ concept_put w k.concepts k.members h (plain (concept_over w i x)) (listed (concept_over w i x))
  put_is h w1 w' l a b =
      b ∙ ap (λ (v : List ℕ). record_put v k.concepts h (starts_at k.members x) (k.members + count_of x))
      (a ∙ ap (sets w (members_at + k.members)) (sym (listed_over w i x p ∙ run_part w i (count_of x) l)))
      ∙ ap (λ (y : Record). concept_put w k.concepts k.members h y (listed (concept_over w i x))) (sym p)

  pub added : Held w k.concepts k.members → k.concepts < most_concepts → k.members + count_of x ≤ most_members → Each (λ d. d < k.concepts) (parts_of (concept_over w i x))
      → find (concept_over w i x) (pool_of w k.concepts) ≡ none → (h : ℕ) → h ≡ hash_by (record_hash x) (run w i (count_of x)) → h < 2048 → (w1 w' : List ℕ) → i + count_of x ≤ length w
      → w1 ≡ sets w (members_at + k.members) (take (count_of x) (drop i w)) → w' ≡ record_put w1 k.concepts h (starts_at k.members x) (k.members + count_of x)
      → Added k (count_of x) (concept_over w i x) w w'
  added H few space below new h hash small w1 w' l a b =
      let e = concept_over w i x in
      let s : k.members + width e ≤ most_members = omega (arith, width_over) in
      let q = put_is h w1 w' l a b in
      let v = concept_put w k.concepts k.members h (plain e) (listed e) in
      record {
        pool = ap (pool_of w') (add-one k.concepts) ∙ rw q (pool_put w k.concepts k.members h e H few s small);
        held = subst (λ (n : ℕ). Held w' n (k.members + count_of x)) (sym (add-one k.concepts)) (subst (λ (u : List ℕ). Held u (suc k.concepts) (k.members + count_of x)) (sym q)
            (subst (λ (c : ℕ). Held v (suc k.concepts) (k.members + c)) width_over
            (held_put w k.concepts k.members h e H few s small (hash ∙ hash_over w i x p) below new)));
        frame = rw q (frame_put w k.concepts k.members h e H few s small);
      }

-- ---- the answers
found_below : (e : Concept) (p : Pool) (c : ℕ) → find e p ≡ some c → c < length p
unfolding find
found_below e [] c h = absurd (let z : ◌≡◌ {A = ℕ} 0 1 = cc in omega arith)
found_below e (y ∷ p) c h = go (same_concept e y) (find e p) (λ i. found_below e p i) h
  where
    go : (b : Bool) (o : Option ℕ) → ((i : ℕ) → o ≡ some i → i < length p) → found_in b o ≡ some c → c < suc (length p)
    go true o r f = let z : zero ≡ c = cc in omega arith
    go false none r f = absurd (let z : ◌≡◌ {A = ℕ} 0 1 = cc in omega arith)
    go false (some i) r f = let z : suc i ≡ c = cc in let l = r i refl in omega arith

module _ (w : List ℕ) (k : Counters) (e : Concept) (H : Held w k.concepts k.members) where
  pub found : (c : ℕ) → some c ≡ find e (pool_of w k.concepts) → Interned k (intern_raw e) w w (Done k c)
  unfolding intern_raw
  found c h = record {
    equal = rw (← h, sized_same w k H) refl;
    held = (H, rw (pool_length w k.concepts) at (found_below e (pool_of w k.concepts) c (sym h)));
  }

  module _ (new : find e (pool_of w k.concepts) ≡ none) where
    pub full : most_concepts ≤ k.concepts → Interned k (intern_raw e) w w (Refused 11)
    unfolding intern_raw
    full h = record { equal = rw (new, pool_length w k.concepts, le-ltb _ _ h) refl; held = tt }

    pub long : k.concepts < most_concepts → most_members < k.members + width e → Interned k (intern_raw e) w w (Refused 11)
    unfolding intern_raw
    long h l = record { equal = rw (new, pool_length w k.concepts, lt-ltb _ _ h, ← H.count, lt-leb _ _ l) refl; held = tt }

    pub interned_new : k.concepts < most_concepts → k.members + width e ≤ most_members → (count : ℕ) → width e ≡ count → (w' : List ℕ) → Added k count e w w'
        → (k' : Counters) → k' ≡ interned_counters count k → Interned k (intern_raw e) w w' (Done k' k.concepts)
    unfolding intern_raw
    interned_new h l count n w' A k' q =
        let p : Pool = pool_of w k.concepts in
        let z : sized k (p ++ (e ∷ [])) ≡ interned_counters count k =
        rw (length-append p (e ∷ []), members_snoc p e, pool_length w k.concepts, ← H.count, n) refl in
        let r : intern_raw e p ≡ ok k.concepts (p ++ (e ∷ [])) = rw (new, pool_length w k.concepts, lt-ltb _ _ h, ← H.count, le-leb _ _ l, pool_length w k.concepts) refl in
        record {
          equal = ap (λ (j : Counters). after (Done j k.concepts) w') q
              ∙ ap (λ (o : Pool). ok k.concepts (drawn (interned_counters count k) o)) A.pool
              ∙ sym (ap (shown k) r ∙ ap (λ (j : Counters). ok k.concepts (drawn j (p ++ (e ∷ [])))) z);
          held = rw q (A.held, omega arith);
        }
