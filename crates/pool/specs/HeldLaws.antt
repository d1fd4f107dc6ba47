-- Laws of the pool in scratch: what a held pool's records say, and that writes elsewhere leave it as it is. Assumes nothing.
use Rattle.std.specs.Prelude.{◌≡◌, refl, Bool, true, List, [], ◌∷◌, ◌++◌, ℕ, zero, suc, ◌+◌, ◌*◌, ◌-◌, ◌<◌, ◌≤◌, length, take, drop}
use Rattle.std.proofs.Common.{sym, ap, subst, ◌∙◌, zero-add, get_or-take, get_or-drop}
use native.Mathlib.Omega.{arith}
use Rattle.std.proofs.Math.ListN.{get_or}
use Rattle.ir.specs.Pick.{pick}
use Rattle.rules.specs.Pool.{at, width, members}
use Rattle.rules.specs.Deck.{parts_of}
use Rattle.rules.specs.PoolLaws.{grown_length, grown_at, members_snoc}
use Rattle.rules.specs.Invariants.{Each, Grown}
use Rattle.rules.specs.TextLaws.{by_test}
use Rattle.pool.specs.declared.record.Record.{Record}
use Rattle.pool.specs.Layout.{pool_words, members_at, heads_at, tab, run, field, record_words, record_at, is_list, count_of, concept_from, concept_over, concept_at, pool_of, plain, listed}
use Rattle.pool.specs.Index.{hash_of, hash_at, last}
use Rattle.pool.specs.Held.{Recorded, Held}
use Rattle.pool.specs.Tabs.{length_tab, get_d_tab, tab_snoc, tab_same}
use Rattle.pool.specs.Shapes.{count_plain, plain_kind, list_listed}

-- ---- the pool of the words
module _ (w : List ℕ) where
  pub pool_length : (n : ℕ) → length (pool_of w n) ≡ n
  pool_length n = length_tab (concept_at w) 0 n

  -- get
  pub pool_at : (n c : ℕ) → c < n → at (pool_of w n) c ≡ concept_at w c
  pool_at n c h = get_d_tab (concept_at w) _ 0 n c h ∙ ap (concept_at w) (zero-add c)

  pub pool_snoc : (n : ℕ) → pool_of w (suc n) ≡ pool_of w n ++ (concept_at w n ∷ [])
  pool_snoc n = tab_snoc (concept_at w) 0 n ∙ ap (λ (c : ℕ). pool_of w n ++ (concept_at w c ∷ [])) (zero-add n)

pub members_next : (w : List ℕ) (c : ℕ) → members (pool_of w (suc c)) ≡ members (pool_of w c) + width (concept_at w c)
members_next w c = ap members (pool_snoc w c) ∙ members_snoc (pool_of w c) (concept_at w c)

members_more : (w : List ℕ) (c k : ℕ) → members (pool_of w c) ≤ members (pool_of w (k + c))
members_more w c zero = let e : 0 + c ≡ c = zero-add c in rw e (omega arith)
members_more w c (suc k) =
    let e : suc k + c ≡ suc (k + c) = omega arith in
    rw e (omega (arith, members_more w c k, members_next w (k + c)))

pub members_rise : (w : List ℕ) (c d : ℕ) → c ≤ d → members (pool_of w c) ≤ members (pool_of w d)
members_rise w c d h = let e : d - c + c ≡ d = omega arith in rw e at (members_more w c (d - c))

-- ---- what a record of a held pool says
module _ (w : List ℕ) (n m : ℕ) (H : Held w n m) (c : ℕ) (h : c < n) where
  pub record_kind : field w c 0 ≡ (plain (concept_at w c)).kind
  record_kind = ap (λ (x : Record). x.kind) (H.records c h).words

  -- the record's count is the concept's width
  pub record_count : count_of (record_at w c) ≡ width (concept_at w c)
  record_count = ap count_of (H.records c h).words ∙ count_plain (concept_at w c)

  -- a list's run starts where the members before it end
  pub list_start : is_list (field w c 0) ≡ true → field w c 3 ≡ members (pool_of w c)
  list_start a =
      let b : is_list (plain (concept_at w c)).kind ≡ true = ap is_list (sym record_kind) ∙ a in
      ap (λ (x : Record). x.child) (H.records c h).words ∙ rw b refl

  pub list_count : is_list (field w c 0) ≡ true → field w c 2 ≡ width (concept_at w c)
  list_count a = rw (← record_count, a) refl

  -- and lies inside the members
  pub list_within : is_list (field w c 0) ≡ true → field w c 3 + field w c 2 ≤ m
  list_within a = omega (arith, list_start a, list_count a, members_next w c, members_rise w (suc c) n h, H.count)

  pub used_within : field w c 4 ≤ m
  used_within = omega (arith, (H.records c h).used, members_rise w (suc c) n h, H.count)

  -- a list's members in use, and those of an earlier record
  pub list_full : is_list (field w c 0) ≡ true → field w c 2 ≤ field w c 4
  list_full a = omega (arith, (H.records c h).used, list_count a, members_next w c)

  pub used_rises : (d : ℕ) → d < c → field w d 4 ≤ field w c 4
  used_rises d l = omega (arith, (H.records c h).used, (H.records d (omega arith)).used, members_rise w (suc d) (suc c) (omega arith))

  pub list_grows : is_list (field w c 0) ≡ true → (d : ℕ) → d < c → field w d 4 + field w c 2 ≤ field w c 4
  list_grows a d l = omega (arith, (H.records c h).used, (H.records d (omega arith)).used, list_count a, members_next w c, members_rise w (suc d) c l)

  -- its members
  pub list_run : is_list (field w c 0) ≡ true → listed (concept_at w c) ≡ run w (members_at + field w c 3) (field w c 2)
  list_run a =
      let z : count_of (record_at w c) ≡ field w c 2 = rw a refl in
      list_listed (record_at w c) (run w (members_at + field w c 3) (count_of (record_at w c))) a ∙ ap (run w (members_at + field w c 3)) z

  pub list_below : is_list (field w c 0) ≡ true → Each (λ d. d < c) (run w (members_at + field w c 3) (field w c 2))
  list_below a =
      let b : is_list (plain (concept_at w c)).kind ≡ true = ap is_list (sym record_kind) ∙ a in
      let p : parts_of (concept_at w c) ≡ run w (members_at + field w c 3) (field w c 2) = sym (ap (λ (t : Bool). pick t (parts_of (concept_at w c)) []) b) ∙ list_run a in
      subst (Each (λ d. d < c)) p (H.records c h).below

  pub kind_range : (1 ≤ field w c 0) × (field w c 0 ≤ 12)
  kind_range = rw record_kind (plain_kind (concept_at w c))

-- a record's concept, where its kind is known
pub concept_is : (w : List ℕ) (c k : ℕ) → field w c 0 ≡ k → concept_at w c ≡ concept_over w (members_at + field w c 3) (record_words k (field w c 1) (field w c 2) (field w c 3))
concept_is w c k e = ap (λ (x : ℕ). concept_over w (members_at + field w c 3) (record_words x (field w c 1) (field w c 2) (field w c 3))) e

-- no concepts, no members
pub held_none : (w : List ℕ) → pool_words ≤ length w → ((h : ℕ) → h < 2048 → get_or w (heads_at + h) 0 ≡ 0) → Held w 0 0
unfolding tab members last
held_none w r z = record {
  room = r;
  few = omega arith;
  space = omega arith;
  count = refl;
  records = λ c h. absurd (omega arith);
  heads = z;
}

-- ---- writes elsewhere
-- the first n records and m members are the same
pub record Same (w w' : List ℕ) (n m : ℕ) : Type 0 where
  pub records : (i : ℕ) → i < 6 * n → get_or w' i 0 ≡ get_or w i 0
  pub members : (i : ℕ) → i < m → get_or w' (members_at + i) 0 ≡ get_or w (members_at + i) 0

pub last_same : (H G : ℕ → ℕ) (n h : ℕ) → ((i : ℕ) → i < n → H i ≡ G i) → last H n h ≡ last G n h
unfolding last
last_same H G zero h e = refl
last_same H G (suc n) h e = rw (e n (omega arith), last_same H G n h (λ i l. e i (omega arith))) refl

module _ (w w' : List ℕ) (n m : ℕ) (H : Held w n m) (S : Same w w' n m) where
  field_same : (c j : ℕ) → c < n → j < 6 → field w' c j ≡ field w c j
  field_same c j h l = S.records (6 * c + j) (omega arith)

  record_same : (c : ℕ) → c < n → record_at w' c ≡ record_at w c
  record_same c h =
      let e0 = field_same c 0 h (omega arith) in
      let e1 = field_same c 1 h (omega arith) in
      let e2 = field_same c 2 h (omega arith) in
      let e3 = field_same c 3 h (omega arith) in
      rw (e0, e1, e2, e3) refl

  run_same : (c : ℕ) → c < n → run w' (members_at + field w c 3) (count_of (record_at w c)) ≡ run w (members_at + field w c 3) (count_of (record_at w c))
  unfolding tab
  run_same c h = by_test (is_list (field w c 0))
      (λ a. let b = list_within w n m H c h a in rw a (tab_same (λ j. get_or w' j 0) (λ j. get_or w j 0) _ _ (field w c 2) (λ k l.
      let q : members_at + field w c 3 + k ≡ members_at + (field w c 3 + k) = omega arith in
      rw q (S.members (field w c 3 + k) (omega arith)))))
      (λ a. rw a refl)

  pub concept_same : (c : ℕ) → c < n → concept_at w' c ≡ concept_at w c
  concept_same c h =
      ap (λ (x : Record). concept_over w' (members_at + x.child) x) (record_same c h)
      ∙ ap (concept_from (record_at w c)) (run_same c h)

  pub pool_same : (c : ℕ) → c ≤ n → pool_of w' c ≡ pool_of w c
  pool_same c h = tab_same (concept_at w') (concept_at w) 0 0 c (λ k l. let e : 0 + k ≡ k = zero-add k in rw e (concept_same k (omega arith)))

  hash_same : (c : ℕ) → c < n → hash_at w' c ≡ hash_at w c
  hash_same c h = ap hash_of (concept_same c h)

  pub last_kept : (c h : ℕ) → c ≤ n → last (hash_at w') c h ≡ last (hash_at w) c h
  last_kept c h l = last_same (hash_at w') (hash_at w) c h (λ i k. hash_same i (omega arith))

  pub recorded_same : (c : ℕ) → c < n → Recorded w' c
  recorded_same c h =
      let R = H.records c h in
      let p = pool_same c (omega arith) in
      let e = concept_same c h in
      record {
        words = record_same c h ∙ R.words ∙ sym (rw (p, e) refl);
        used = field_same c 4 h (omega arith) ∙ R.used ∙ ap members (sym (pool_same (suc c) h));
        link = field_same c 5 h (omega arith) ∙ R.link ∙ sym (last_kept c (hash_at w' c) (omega arith) ∙ ap (last (hash_at w) c) (hash_same c h));
        below = rw e R.below;
        new = rw (e, p) R.new;
      }

  pub held_same : length w' ≡ length w → ((h : ℕ) → h < 2048 → get_or w' (heads_at + h) 0 ≡ get_or w (heads_at + h) 0) → Held w' n m
  held_same l g = record {
    room = rw l H.room;
    few = H.few;
    space = H.space;
    count = H.count ∙ ap members (sym (pool_same n (omega arith)));
    records = recorded_same;
    heads = λ h k. g h k ∙ H.heads h k ∙ sym (last_kept n h (omega arith));
  }

-- words above a place that was left alone
pub word_above : (b : ℕ) (w w' : List ℕ) → drop b w' ≡ drop b w → (i : ℕ) → b ≤ i → get_or w' i 0 ≡ get_or w i 0
word_above b w w' e i h =
    let q : i ≡ b + (i - b) = omega arith in
    rw q (sym (get_or-drop b w' (i - b) 0) ∙ ap (λ (l : List ℕ). get_or l (i - b) 0) e ∙ get_or-drop b w (i - b) 0)

pub run_above : (b : ℕ) (w w' : List ℕ) → drop b w' ≡ drop b w → (i n : ℕ) → b ≤ i → run w' i n ≡ run w i n
run_above b w w' e i n h = tab_same (λ j. get_or w' j 0) (λ j. get_or w j 0) i i n (λ k l. word_above b w w' e (i + k) (omega arith))

-- a write above the pool changes nothing
module _ (w w' : List ℕ) (n m : ℕ) (H : Held w n m) (e : take pool_words w' ≡ take pool_words w) where
  word_kept : (i : ℕ) → i < pool_words → get_or w' i 0 ≡ get_or w i 0
  word_kept i h = sym (get_or-take pool_words w' i 0 h) ∙ ap (λ (l : List ℕ). get_or l i 0) e ∙ get_or-take pool_words w i 0 h

  same_kept : Same w w' n m
  same_kept = record {
    records = λ i l. word_kept i (omega (arith, H.few));
    members = λ i l. word_kept (members_at + i) (omega (arith, H.space));
  }

  pub pool_kept : pool_of w' n ≡ pool_of w n
  pool_kept = pool_same w w' n m H same_kept n (omega arith)

  pub held_kept : length w' ≡ length w → Held w' n m
  held_kept l = held_same w w' n m H same_kept l (λ h k. word_kept (heads_at + h) (omega arith))

-- ---- a pool that has grown: its old records are as they were
module _ (w w' : List ℕ) (n m n' m' : ℕ) (H : Held w n m) (H' : Held w' n' m') (G : Grown (pool_of w n) (pool_of w' n')) where
  grown_few : n ≤ n'
  grown_few = omega (arith, grown_length G, pool_length w n, pool_length w' n')

  pub grown_concept : (c : ℕ) → c < n → concept_at w' c ≡ concept_at w c
  grown_concept c h =
      let l = grown_few in
      sym (pool_at w' n' c (omega arith)) ∙ grown_at G c (rw (pool_length w n) h) ∙ pool_at w n c h

  grown_pool : (c : ℕ) → c ≤ n → pool_of w' c ≡ pool_of w c
  grown_pool c h = tab_same (concept_at w') (concept_at w) 0 0 c (λ k l. let e : 0 + k ≡ k = zero-add k in rw e (grown_concept k (omega arith)))

  pub grown_record : (c : ℕ) → c < n → record_at w' c ≡ record_at w c
  grown_record c h =
      let l = grown_few in
      (H'.records c (omega arith)).words ∙ rw (grown_pool c (omega arith), grown_concept c h) (sym (H.records c h).words)

  pub grown_used : (c : ℕ) → c < n → field w' c 4 ≡ field w c 4
  grown_used c h =
      let l = grown_few in
      (H'.records c (omega arith)).used ∙ ap members (grown_pool (suc c) h) ∙ sym (H.records c h).used
