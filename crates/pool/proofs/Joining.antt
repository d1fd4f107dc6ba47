-- And and Or, from clear marks to the collapsed list. Assumes nothing.
use mathlib.Core.Path.{◌≡◌, refl, sym, ap, subst, ◌∙◌}
use mathlib.Core.Bool.{Bool, true, false}
use mathlib.Core.List.{List, [], ◌∷◌}
use Prim.{tt}
use Prim.Native.Nat.{ℕ, zero, suc, ◌+◌, ◌-◌, ◌<◌, ◌≤◌}
use native.Mathlib.Omega.{arith}
use lib.ListN.{length, get_or, drop, replicate, length-replicate, get_or-replicate}
use lib.Seq.{sets, drop-drop}
use lib.Dec.{eqb}
use Rattle.words.specs.Words.{words}
use Rattle.words.specs.Laws.{length_words}
use Rattle.words.specs.Runs.{get_d_sets_in, take_sets, drop_sets}
use Rattle.ir.specs.Pick.{pick}
use Rattle.ir.specs.declared.counters.Counters.{Counters}
use Rattle.ir.specs.Answer.{Answer}
use Rattle.ir.specs.Answer.{Done}
use Rattle.rules.specs.Base.{M, ok, contains}
use Rattle.rules.specs.Concept.{Concept, Top, Bot}
use Rattle.rules.specs.Pool.{Pool, at, most_concepts, intern_raw, added, flattened, any_annihilates, sort_dedup, collapsed, and_of, or_of, mk_and, mk_or}
use Rattle.rules.specs.PoolLaws.{below_more}
use Rattle.rules.specs.Deck.{parts_of}
use Rattle.rules.specs.Invariants.{Each}
use Rattle.rules.specs.EachLaws.{each_append}
use Rattle.rules.specs.JointLaws.{Joint, conj, disj, list_of, operand_of, mk_joint}
use Rattle.rules.specs.TextLaws.{by_test}
use Rattle.pool.specs.Layout.{pool_words, tab, run, record_words, is_list, concept_from, concept_at, pool_of, plain, listed}
use Rattle.pool.specs.Held.{Held, Ready}
use Rattle.pool.specs.Answers.{drawn, shown, Interned}
use Rattle.pool.specs.Joints.{list_kind, identity_kind, annihilator_kind, identity_of, annihilator_of, operand_in}
use Rattle.pool.specs.Marks.{is_marked, marked_ids, Outside, Beside, Flattened, Operands}
use Rattle.pool.specs.HeldLaws.{pool_at, word_above, run_above}
use Rattle.pool.proofs.Marking.{added_append, operand_is, outside_then, outside_below, outside_same, outside_held, marked_is}
use Rattle.pool.proofs.Sorting.{filter_same, filter_below, sorted_ids}
use Rattle.pool.specs.AnswerLaws.{sized_same}

-- ---- Top and Bot
pub record Bare (k : ℕ) (e : Concept) : Type 0 where
  pub low : 1 ≤ k
  pub high : k < 3
  pub is : concept_from (record_words k 0 0 0) [] ≡ e

bare_top : (k : ℕ) → k ≡ 1 → Bare k Top
unfolding concept_from
bare_top k e = rw e (record { low = omega arith; high = omega arith; is = refl })

bare_bot : (k : ℕ) → k ≡ 2 → Bare k Bot
unfolding concept_from
bare_bot k e = rw e (record { low = omega arith; high = omega arith; is = refl })

pub bare_identity : (j : Joint) (k : ℕ) → k ≡ identity_kind j → Bare k (identity_of j)
bare_identity conj k e = bare_top k e
bare_identity disj k e = bare_bot k e

pub bare_annihilator : (j : Joint) (k : ℕ) → k ≡ annihilator_kind j → Bare k (annihilator_of j)
bare_annihilator conj k e = bare_bot k e
bare_annihilator disj k e = bare_top k e

-- ---- another rule that does the same
pub interned_over : (k : Counters) (f g : M Pool ℕ) (v w w' : List ℕ) (r : Answer) → Interned k f v w' r → f (pool_of v k.concepts) ≡ g (pool_of w k.concepts) → Interned k g w w' r
interned_over k f g v w w' r I e = record { equal = I.equal ∙ ap (shown k) e; held = I.held }

-- ---- collapse
module _ (unit : Concept) (list : List ℕ → Concept) (w : List ℕ) (i n : ℕ) where
  pub collapsed_none : n ≡ 0 → collapsed unit list (run w i n) ≡ intern_raw unit
  unfolding tab
  collapsed_none e = rw e refl

  pub collapsed_one : (k : Counters) → Held w k.concepts k.members → Each (λ d. d < k.concepts) (run w i n) → n ≡ 1 → (c : ℕ) → c ≡ get_or w i 0 → Interned k (collapsed unit list (run w i n)) w w (Done k c)
  unfolding tab
  collapsed_one k H h e c q =
      let r : run w i n ≡ c ∷ [] = ap (run w i) e ∙ ap (λ (d : ℕ). d ∷ []) (sym q) in
      let l : Each (λ d. d < k.concepts) (c ∷ []) = subst (Each (λ d. d < k.concepts)) r h in
      record {
        equal = sym (ap (λ (t : List ℕ). shown k (collapsed unit list t (pool_of w k.concepts))) r ∙ ap (λ (x : Counters). ok c (drawn x (pool_of w k.concepts))) (sized_same w k H));
        held = (H, l.0);
      }

pub collapsed_many : (unit : Concept) (list : List ℕ → Concept) (w : List ℕ) (i n : ℕ) → (n ≡ 0 → ⊥) → (n ≡ 1 → ⊥) → collapsed unit list (run w i n) ≡ intern_raw (list (run w i n))
unfolding tab
collapsed_many unit list w i zero h k = absurd (h refl)
collapsed_many unit list w i (suc zero) h k = absurd (k refl)
collapsed_many unit list w i (suc (suc n)) h k = refl

-- ---- clear marks
pub record Cleared (marks n : ℕ) (w w' : List ℕ) : Type 0 where
  pub zeros : (i : ℕ) → i < n → get_or w' (marks + i) 0 ≡ 0
  pub outside : Outside marks w w'

pub cleared : (marks n : ℕ) (w w' : List ℕ) → n ≤ most_concepts → marks + n ≤ length w → w' ≡ sets w marks (replicate n 0) → Cleared marks n w w'
cleared marks n w w' h l e =
    let z : length (replicate {A = ℕ} n 0) ≡ n = length-replicate n 0 in
    record {
      zeros = λ i k. rw e (get_d_sets_in (replicate n 0) w marks i 0 (omega arith) (omega arith) ∙ get_or-replicate n i 0 0 k);
      outside = record {
        before = rw e (take_sets (replicate n 0) w marks marks (omega arith));
        behind = rw e (drop_sets (replicate n 0) w marks (marks + most_concepts) (omega arith));
      };
    }

-- ---- the flattened list names concepts of the pool
given_below : (j : Joint) (e : Concept) (c n : ℕ) → c < n → Each (λ d. d < c) (parts_of e) → Each (λ d. d < n) (added (operand_of j e) c [])
given_below j e c n h b = rw (operand_is j e)
    (by_test (eqb (plain e).kind (identity_kind j)) (λ x. rw x tt)
    (λ x. by_test (eqb (plain e).kind (annihilator_kind j)) (λ y. rw (x, y) tt)
    (λ y. by_test (eqb (plain e).kind (list_kind j))
    (λ z. rw (x, y, z) (each_append (λ d. d < n) (listed e) [] (low (is_list (plain e).kind)) tt))
    (λ z. rw (x, y, z) (h, tt)))))
  where
    low : (t : Bool) → Each (λ d. d < n) (pick t (parts_of e) [])
    low true = below_more (omega arith) (parts_of e) b
    low false = tt

pub flattened_below : (j : Joint) (w : List ℕ) (n m : ℕ) → Held w n m → (l : List ℕ) → Each (λ d. d < n) l → Each (λ d. d < n) (flattened (operand_in j (pool_of w n)) l)
unfolding flattened
flattened_below j w n m H [] h = tt
flattened_below j w n m H (a ∷ l) h =
    let q : at (pool_of w n) a ≡ concept_at w a = pool_at w n a h.0 in
    let b : Each (λ d. d < n) (added (operand_in j (pool_of w n) a) a []) = rw q (given_below j (concept_at w a) a n h.0 (H.records a h.0).below) in
    rw (added_append (operand_in j (pool_of w n) a) a (flattened (operand_in j (pool_of w n)) l))
    (each_append (λ d. d < n) (added (operand_in j (pool_of w n) a) a []) (flattened (operand_in j (pool_of w n)) l) b (flattened_below j w n m H l h.1))

-- ---- the rule
pub mk_short : (j : Joint) (l : List ℕ) (p : Pool) → any_annihilates (operand_in j p) l ≡ true → mk_joint j l p ≡ intern_raw (annihilator_of j) p
unfolding mk_and mk_or
mk_short conj l p h = ap (λ (b : Bool). and_of (flattened (operand_in conj p) l) b p) h
mk_short disj l p h = ap (λ (b : Bool). or_of (flattened (operand_in disj p) l) b p) h

pub mk_long : (j : Joint) (l : List ℕ) (p : Pool) → any_annihilates (operand_in j p) l ≡ false → mk_joint j l p ≡ collapsed (identity_of j) (list_of j) (sort_dedup (flattened (operand_in j p) l)) p
unfolding mk_and mk_or
mk_long conj l p h = ap (λ (b : Bool). and_of (flattened (operand_in conj p) l) b p) h
mk_long disj l p h = ap (λ (b : Bool). or_of (flattened (operand_in disj p) l) b p) h

-- the pool written after the marks
pub beside : {marks : ℕ} {w v : List ℕ} → Outside marks w v → pool_words ≤ marks → (v' : List ℕ) → drop pool_words v' ≡ drop pool_words v → Beside marks w v'
beside {marks} {w} {v} O h v' e = record {
  between = λ i a b. word_above pool_words v v' e i a ∙ outside_below O i b;
  behind =
      let q : marks + most_concepts ≡ pool_words + (marks + most_concepts - pool_words) = omega arith in
      rw q (sym (drop-drop (marks + most_concepts - pool_words) pool_words v') ∙ ap (drop (marks + most_concepts - pool_words)) e ∙ drop-drop (marks + most_concepts - pool_words) pool_words v) ∙ O.behind;
}

-- ---- the steps: bytes s at entry, s1 with clear marks, s2 with what the operands give, s3 with the sorted list in their place
pub ready_after : (marks : ℕ) (s s' : List ℕ) (k : Counters) → Ready s k → pool_words ≤ marks → length s' ≡ length s → Outside marks (words s) (words s') → Ready s' k
ready_after marks s s' k R h e O = record {
  room = rw e R.room;
  held = outside_held O k.concepts k.members R.held h (rw (length_words s', length_words s, e) refl);
}

module _ (j : Joint) (s s1 : List ℕ) (k : Counters) (marks i n : ℕ) (A : Operands s k marks i n) (e1 : length s1 ≡ length s) (C : Cleared marks k.concepts (words s) (words s1)) where
  ready1 : Ready s1 k
  ready1 = ready_after marks s s1 k A.ready A.above e1 C.outside

  pool1 : pool_of (words s1) k.concepts ≡ pool_of (words s) k.concepts
  pool1 = outside_same C.outside k.concepts k.members A.ready.held A.above

  run1 : run (words s1) i n ≡ run (words s) i n
  run1 = run_above (marks + most_concepts) (words s) (words s1) C.outside.behind i n A.apart

  pub operands1 : Operands s1 k marks i n
  operands1 = record {
    ready = ready1;
    above = A.above;
    apart = A.apart;
    within = rw e1 A.within;
    below = rw run1 A.below;
  }

  module _ (s2 : List ℕ) (r : Bool) (e2 : length s2 ≡ length s1) (F : Flattened (operand_in j (pool_of (words s1) k.concepts)) marks (run (words s1) i n) (words s1) (words s2) r) where
    pub outside2 : Outside marks (words s) (words s2)
    outside2 = outside_then C.outside F.outside

    pub ready2 : Ready s2 k
    ready2 = ready_after marks s1 s2 k ready1 A.above e2 F.outside

    pool2 : pool_of (words s2) k.concepts ≡ pool_of (words s) k.concepts
    pool2 = outside_same outside2 k.concepts k.members A.ready.held A.above

    any2 : r ≡ any_annihilates (operand_in j (pool_of (words s) k.concepts)) (run (words s) i n)
    any2 = rw (← run1, ← pool1) F.any

    pub short : r ≡ true → intern_raw (annihilator_of j) (pool_of (words s2) k.concepts) ≡ mk_joint j (run (words s) i n) (pool_of (words s) k.concepts)
    short t = ap (intern_raw (annihilator_of j)) pool2 ∙ sym (mk_short j (run (words s) i n) (pool_of (words s) k.concepts) (sym any2 ∙ t))

    sorted : r ≡ false → marked_ids (words s2) marks k.concepts ≡ sort_dedup (flattened (operand_in j (pool_of (words s) k.concepts)) (run (words s) i n))
    sorted t =
        let l : List ℕ = flattened (operand_in j (pool_of (words s1) k.concepts)) (run (words s1) i n) in
        filter_same (is_marked (words s2) marks) (contains l) 0 k.concepts (λ c a b.
        let h : c < k.concepts = omega arith in
        ap (λ (v : List ℕ). is_marked v marks c) (F.list t)
        ∙ marked_is marks l (words s1) c (omega (arith, length_words s1, ready1.held.few, operands1.within, A.apart)) (C.zeros c h))
        ∙ sym (sorted_ids l k.concepts (flattened_below j (words s1) k.concepts k.members ready1.held (run (words s1) i n) operands1.below))
        ∙ rw (run1, pool1) refl

    module _ (s3 : List ℕ) (m : ℕ) (e3 : length s3 ≡ length s2) (O : Outside marks (words s2) (words s3)) (q : run (words s3) marks m ≡ marked_ids (words s2) marks k.concepts) where
      pub outside3 : Outside marks (words s) (words s3)
      outside3 = outside_then outside2 O

      pub ready3 : Ready s3 k
      ready3 = ready_after marks s2 s3 k ready2 A.above e3 O

      pub below3 : Each (λ d. d < k.concepts) (run (words s3) marks m)
      below3 = rw q (filter_below (is_marked (words s2) marks) k.concepts 0 k.concepts (omega arith))

      pub joined : r ≡ false → collapsed (identity_of j) (list_of j) (run (words s3) marks m) (pool_of (words s3) k.concepts) ≡ mk_joint j (run (words s) i n) (pool_of (words s) k.concepts)
      joined t =
          ap (λ (l : List ℕ). collapsed (identity_of j) (list_of j) l (pool_of (words s3) k.concepts)) (q ∙ sorted t)
          ∙ ap (collapsed (identity_of j) (list_of j) (sort_dedup (flattened (operand_in j (pool_of (words s) k.concepts)) (run (words s) i n))))
          (outside_same outside3 k.concepts k.members A.ready.held A.above)
          ∙ sym (mk_long j (run (words s) i n) (pool_of (words s) k.concepts) (sym any2 ∙ t))
