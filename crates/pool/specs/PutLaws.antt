-- A concept put behind the others: the pool is longer by it, and held again. Assumes nothing.
use Rattle.std.specs.Prelude.{◌≡◌, refl, Bool, true, false, List, [], ◌∷◌, ◌++◌, ℕ, suc, ◌+◌, ◌*◌, ◌<◌, ◌≤◌, get_or, drop, eqb, ltb}
use Rattle.std.proofs.Common.{sym, subst, ◌∙◌, arith, add-one, length-set, get_or-set_same, get_or-set_other, drop-set-lt, eqb-true, ltb-true, ltb-false}
use Rattle.std.proofs.Math.Path.{ap}
use Rattle.std.proofs.Math.Option.{none}
use Rattle.std.proofs.Math.ListN.{length}
use Rattle.std.proofs.lemmas.List.Edits.{sets}
use Rattle.std.proofs.Math.Seq.{length-sets}
use Rattle.std.proofs.lemmas.Bool.{eqb-false}
use Rattle.words.specs.Runs.{get_d_sets_after, get_d_sets_before, get_d_sets_in, drop_sets}
use Rattle.ir.specs.Pick.{pick}
use Rattle.rules.specs.Concept.{Concept}
use Rattle.rules.specs.Pool.{most_concepts, most_members, find, width, members}
use Rattle.rules.specs.Deck.{parts_of}
use Rattle.rules.specs.Invariants.{Each}
use Rattle.rules.specs.TextLaws.{by_test}
use Rattle.pool.specs.declared.record.Record.{Record}
use Rattle.pool.specs.Layout.{pool_words, members_at, heads_at, tab, run, record_at, is_list, count_of, concept_from, concept_at, pool_of, plain, starts_at, listed, six_of, concept_put}
use Rattle.pool.specs.Index.{hash_of, hash_at, last}
use Rattle.pool.specs.Held.{Recorded, Held}
use Rattle.pool.specs.Tabs.{run_is}
use Rattle.pool.specs.Shapes.{plain_back, width_listed, count_plain, from_starts}
use Rattle.pool.specs.HeldLaws.{pool_snoc, members_next, Same, pool_same, last_kept, recorded_same}

last_yes : (H : ℕ → ℕ) (n g : ℕ) → eqb (H n) g ≡ true → suc n ≡ last H (suc n) g
unfolding last
last_yes H n g a = rw a refl

last_no : (H : ℕ → ℕ) (n g : ℕ) → eqb (H n) g ≡ false → last H n g ≡ last H (suc n) g
unfolding last
last_no H n g a = rw a refl

module _ (w : List ℕ) (n m h : ℕ) (e : Concept) (H : Held w n m) (few : n < most_concepts) (space : m + width e ≤ most_members) (small : h < 2048) where
  abbrev w1 : List ℕ
  w1 = sets w (members_at + m) (listed e)

  abbrev w' : List ℕ
  w' = concept_put w n m h (plain e) (listed e)

  abbrev six : List ℕ
  six = six_of (starts_at m (plain e)) (m + count_of (plain e)) (get_or w1 (heads_at + h) 0)

  long : length w1 ≡ length w
  long = length-sets w (members_at + m) (listed e)

  -- words apart from the record and the head are those of w1
  apart_before : (i : ℕ) → i < 6 * n → get_or w' i 0 ≡ get_or w1 i 0
  apart_before i l =
      get_or-set_other (sets w1 (6 * n) six) (heads_at + h) i (n + 1) 0 (λ a. absurd (omega arith))
      ∙ get_d_sets_before six w1 (6 * n) i 0 l

  apart_after : (i : ℕ) → members_at ≤ i → (i ≡ heads_at + h → ⊥) → get_or w' i 0 ≡ get_or w1 i 0
  apart_after i l d = get_or-set_other (sets w1 (6 * n) six) (heads_at + h) i (n + 1) 0 d ∙ get_d_sets_after six w1 (6 * n) i 0 (omega arith)

  record_word : (k : ℕ) → k < 6 → get_or w' (6 * n + k) 0 ≡ get_or six k 0
  record_word k l =
      get_or-set_other (sets w1 (6 * n) six) (heads_at + h) (6 * n + k) (n + 1) 0 (λ a. absurd (omega arith))
      ∙ get_d_sets_in six w1 (6 * n) k 0 l (omega (arith, long, H.room))

  head_new : get_or w' (heads_at + h) 0 ≡ n + 1
  head_new = get_or-set_same (sets w1 (6 * n) six) (heads_at + h) (n + 1) 0 (rw (length-sets w1 (6 * n) six, long) (omega (arith, H.room)))

  -- the list
  low : (i : ℕ) → i < members_at + m → get_or w1 i 0 ≡ get_or w i 0
  low i l = get_d_sets_before (listed e) w (members_at + m) i 0 l

  high : (i : ℕ) → heads_at ≤ i → get_or w1 i 0 ≡ get_or w i 0
  high i l = get_d_sets_after (listed e) w (members_at + m) i 0 (omega (arith, width_listed e))

  list_word : (i : ℕ) → i < length (listed e) → get_or w' (members_at + m + i) 0 ≡ get_or (listed e) i 0
  list_word i l =
      apart_after (members_at + m + i) (omega arith) (λ a. absurd (omega (arith, width_listed e)))
      ∙ get_d_sets_in (listed e) w (members_at + m) i 0 l (omega (arith, width_listed e, H.room))

  put_same : Same w w' n m
  put_same = record {
    records = λ i l. apart_before i l ∙ low i (omega arith);
    members = λ i l. apart_after (members_at + i) (omega arith) (λ a. absurd (omega (arith, H.space))) ∙ low (members_at + i) (omega arith);
  }

  -- the new record
  record_new : record_at w' n ≡ starts_at m (plain e)
  record_new =
      let e0 = record_word 0 (omega arith) in
      let e1 = record_word 1 (omega arith) in
      let e2 = record_word 2 (omega arith) in
      let e3 = record_word 3 (omega arith) in
      rw (e0, e1, e2, e3) refl

  run_new : run w' (members_at + (starts_at m (plain e)).child) (count_of (plain e)) ≡ listed e
  unfolding tab
  run_new =
      let q : count_of (plain e) ≡ length (listed e) = count_plain e ∙ width_listed e in
      by_test (is_list (plain e).kind)
      (λ a. let s : (starts_at m (plain e)).child ≡ m = ap (λ (b : Bool). pick b m (plain e).child) a in
      ap (λ (j : ℕ). run w' (members_at + j) (count_of (plain e))) s ∙ ap (run w' (members_at + m)) q ∙ run_is w' (members_at + m) (listed e) list_word)
      (λ a. rw a refl)

  pub concept_new : concept_at w' n ≡ e
  concept_new =
      ap (λ (x : Record). concept_from x (run w' (members_at + x.child) (count_of x))) record_new
      ∙ ap (concept_from (starts_at m (plain e))) run_new ∙ from_starts m (plain e) (listed e) ∙ plain_back e

  pool_old : pool_of w' n ≡ pool_of w n
  pool_old = pool_same w w' n m H put_same n (omega arith)

  pub pool_put : pool_of w' (suc n) ≡ pool_of w n ++ (e ∷ [])
  pool_put = pool_snoc w' n ∙ rw (pool_old, concept_new) refl

  members_old : m ≡ members (pool_of w' n)
  members_old = H.count ∙ ap members (sym pool_old)

  members_new : m + width e ≡ members (pool_of w' (suc n))
  members_new = sym (members_next w' n ∙ rw (← members_old, concept_new) refl)

  pub frame_put : drop pool_words w' ≡ drop pool_words w
  frame_put =
      drop-set-lt pool_words (sets w1 (6 * n) six) (heads_at + h) (n + 1) (omega arith)
      ∙ drop_sets six w1 (6 * n) pool_words (omega arith)
      ∙ drop_sets (listed e) w (members_at + m) pool_words (omega (arith, width_listed e))

  module _ (hash : h ≡ hash_of e) (below : Each (λ d. d < n) (parts_of e)) (new : find e (pool_of w n) ≡ none) where
    hash_new : h ≡ hash_at w' n
    hash_new = hash ∙ ap hash_of (sym concept_new)

    last_old : (g : ℕ) → last (hash_at w') n g ≡ last (hash_at w) n g
    last_old g = last_kept w w' n m H put_same n g (omega arith)

    recorded_new : Recorded w' n
    recorded_new = record {
      words = record_new ∙ sym (rw (← members_old, concept_new) refl);
      used = record_word 4 (omega arith) ∙ ap (λ (k : ℕ). m + k) (count_plain e) ∙ members_new;
      link = record_word 5 (omega arith) ∙ high (heads_at + h) (omega arith) ∙ H.heads h small ∙ sym (last_old h) ∙ ap (last (hash_at w') n) hash_new;
      below = rw concept_new below;
      new = rw (concept_new, pool_old) new;
    }

    heads_new : (g : ℕ) → g < 2048 → get_or w' (heads_at + g) 0 ≡ last (hash_at w') (suc n) g
    heads_new g l = by_test (eqb (hash_at w' n) g)
        (λ a. let q : g ≡ h = sym (eqb-true (hash_at w' n) g a) ∙ sym hash_new in ap (λ (i : ℕ). get_or w' (heads_at + i) 0) q ∙ head_new ∙ add-one n ∙ last_yes (hash_at w') n g a)
        (λ a. apart_after (heads_at + g) (omega arith) (λ b. eqb-false (hash_at w' n) g a (let c : h ≡ g = omega arith in sym hash_new ∙ c))
        ∙ high (heads_at + g) (omega arith) ∙ H.heads g l ∙ sym (last_old g) ∙ last_no (hash_at w') n g a)

    pub held_put : Held w' (suc n) (m + width e)
    held_put = record {
      room = rw (length-set (sets w1 (6 * n) six) (heads_at + h) (n + 1), length-sets w1 (6 * n) six, long) H.room;
      few = few;
      space = space;
      count = members_new;
      records = λ c l. by_test (ltb c n)
          (λ a. recorded_same w w' n m H put_same c (ltb-true c n a))
          (λ a. let b : n ≤ c = ltb-false c n a in let q : n ≡ c = omega arith in subst (λ (i : ℕ). Recorded w' i) q recorded_new);
      heads = heads_new;
    }
