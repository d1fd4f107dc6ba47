-- One visit of a concept: its parts are put on the stack, the run of them is normalised, and the concept is made again.
-- Assumes nothing.
use mathlib.Core.Path.{◌≡◌, refl, sym, ap, subst, ◌∙◌}
use mathlib.Core.Bool.{Bool, true, false}
use mathlib.Core.List.{List}
use Prim.{tt}
use Prim.Native.Nat.{ℕ, zero, suc, ◌+◌, ◌<◌, ◌≤◌}
use native.Mathlib.Omega.{arith}
use lib.ListN.{length, drop}
use lib.Seq.{sets}
use lib.Dec.{ltb}
use Rattle.words.specs.Words.{words}
use Rattle.words.specs.Laws.{length_words}
use Rattle.ir.specs.Counts.{tick, visited}
use Rattle.ir.specs.Scratch.{keys_at, normal_forms_at}
use Rattle.ir.specs.declared.counters.Counters.{Counters}
use Rattle.ir.specs.Visit.{Begun, Full}
use Rattle.ir.specs.Answer.{Answer}
use Rattle.ir.specs.Answer.{Done, Refused}
use Rattle.rules.specs.Base.{Res, ok, refused, then, each}
use Rattle.rules.specs.Concept.{Concept}
use Rattle.rules.specs.Concept.{Top, Bot, Atomic, Nominal, SelfRestriction, Not, And, Or, Some, All, Min, Max}
use Rattle.rules.specs.Pool.{Pool, width, members}
use Rattle.rules.specs.Post.{Post, gives, post_map}
use Rattle.rules.specs.Normalize.{St, visit, in_pool, nnf_by}
use Rattle.rules.specs.Invariants.{Wf, Grown}
use Rattle.rules.specs.PoolLaws.{grown_refl, below_more}
use Rattle.rules.specs.DepthLaws.{deepest_of, depth}
use Rattle.rules.proofs.NormalizeLaws.{AllDone}
use Rattle.rules.specs.TextLaws.{by_test}
use Rattle.pool.specs.Layout.{run, concept_at, pool_of}
use Rattle.pool.specs.Held.{Ready}
use Rattle.pool.specs.Answers.{after, shown}
use Rattle.pool.specs.HeldLaws.{pool_length, pool_at, members_next, word_above}
use Rattle.words.specs.Runs.{get_d_sets_after}
use Rattle.rebuilding.specs.Steps.{visited_parts, part_negated, rebuilt}
use Rattle.rebuilding.specs.States.{state_of, told, after_run, HeldRun, Kept, Normalizing, NormalizingRun, RebuildingAfter, RebuiltAfter}
use Rattle.normalize.specs.StepLaws.{step_by, nnf_by_lem}
use Rattle.normalize.specs.StateLaws.{Stated, stated, stated_post, told_on, told_refused, shown_told, grown_count, same_concept_lem, same_pool, each_by_done}
use Rattle.normalize.specs.Known.{KnownIf, KnownAfter}
use Rattle.normalize.specs.KnownLaws.{known_if_on}
use Rattle.normalize.specs.LastingLaws.{rebuilt_lasts}
use Rattle.normalize.specs.SettledLaws.{parts_each}
use Rattle.normalize.specs.KeptLaws.{Under, under_sets, run_sets, kept_parts}
use Rattle.normalize.proofs.Turns.{Deep}

-- ---- the visited parts
parts_few : (b : Bool) (e : Concept) → length (visited_parts b e) ≤ width e + 1
parts_few false Top = omega arith
parts_few false Bot = omega arith
parts_few false (Atomic _) = omega arith
parts_few false (Nominal _) = omega arith
parts_few false (SelfRestriction _) = omega arith
parts_few false (Not _) = omega arith
parts_few false (And l) = omega arith
parts_few false (Or l) = omega arith
parts_few false (Some _ _) = omega arith
parts_few false (All _ _) = omega arith
parts_few false (Min _ _ _) = omega arith
parts_few false (Max _ _ _) = omega arith
parts_few true Top = omega arith
parts_few true Bot = omega arith
parts_few true (Atomic _) = omega arith
parts_few true (Nominal _) = omega arith
parts_few true (SelfRestriction _) = omega arith
parts_few true (Not _) = omega arith
parts_few true (And l) = omega arith
parts_few true (Or l) = omega arith
parts_few true (Some _ _) = omega arith
parts_few true (All _ _) = omega arith
parts_few true (Min zero _ _) = omega arith
parts_few true (Min (suc _) _ _) = omega arith
parts_few true (Max _ _ _) = omega arith

-- ---- the visit
told_tick : {A : Type 0} (k : Counters) (x : Res St A) → told (tick k) x ≡ told k x
told_tick k (ok a t) = refl
told_tick k (refused e) = refl

begun_test : (k v : Counters) → visited k ≡ Begun v → (ltb k.visits k.limit ≡ true) × (v ≡ tick k)
begun_test k v h = by_test (ltb k.visits k.limit)
    (λ a. (a, let e : Begun v ≡ Begun (tick k) = sym h ∙ rw a refl in cc))
    (λ a. absurd (let e : Begun v ≡ Full = sym h ∙ rw a refl in let z : ◌≡◌ {A = ℕ} 0 1 = cc in omega arith))

full_test : (k : Counters) → visited k ≡ Full → ltb k.visits k.limit ≡ false
full_test k h = by_test (ltb k.visits k.limit)
    (λ a. absurd (let e : Begun (tick k) ≡ Full = sym (rw a refl) ∙ h in let z : ◌≡◌ {A = ℕ} 0 1 = cc in omega arith))
    (λ a. a)

pub visit_full : (k : Counters) (w : List ℕ) (c : ℕ) (b : Bool) → visited k ≡ Full → (f : ℕ) → c < f → after (Refused 10) w ≡ told k (nnf_by b f c (state_of k w))
unfolding visit
visit_full k w c b h zero l = absurd (omega arith)
visit_full k w c b h (suc f) l = sym (ap (told k) (nnf_by_lem b f c (state_of k w)) ∙ rw (full_test k h) refl)

module _ (k v : Counters) (begun : visited k ≡ Begun v) where
  visit_begun : (s : List ℕ) (top c : ℕ) → Normalizing s k top c → Normalizing s v top c
  visit_begun s top c P = subst (λ (j : Counters). Normalizing s j top c) (sym (begun_test k v begun).1) (record {
    bounds = P.bounds;
    ready = record { room = P.ready.room; held = P.ready.held };
    wf = P.wf;
    held = P.held;
    above = P.above;
    room = P.room;
    space = P.space;
  })

  pub begun_known : (w : List ℕ) (m : Bool) → KnownIf m w k.concepts → KnownIf m w v.concepts
  begun_known w m K = subst (λ (j : Counters). KnownIf m w j.concepts) (sym (begun_test k v begun).1) K

  visit_told : (w : List ℕ) (c : ℕ) (b : Bool) (f : ℕ) → told v (step_by b f c (state_of v w)) ≡ told k (nnf_by b (suc f) c (state_of k w))
  unfolding visit
  visit_told w c b f =
      let t = begun_test k v begun in
      ap (λ (j : Counters). told j (step_by b f c (state_of j w))) t.1
      ∙ told_tick k (step_by b f c (state_of (tick k) w))
      ∙ sym (ap (told k) (nnf_by_lem b f c (state_of k w)) ∙ rw t.0 refl)

-- an answer's pool has grown where the rule's has
grew : (k k3 : Counters) (i : ℕ) (w : List ℕ) (p : Pool) (x : Res Pool ℕ) → after (Done k3 i) w ≡ shown k x → Post (λ _ q. Grown p q) x → Grown p (pool_of w k3.concepts)
grew k k3 i w p (ok j q) e (gives g) = let o : pool_of w k3.concepts ≡ q = cc in rw o g
grew k k3 i w p (refused n) e g = absurd (let z : ◌≡◌ {A = ℕ} 0 1 = cc in omega arith)

-- ---- after the visit
-- the parts of concept c are put on the stack of s, which gives s1
pub record Parted (s : List ℕ) (v : Counters) (top c : ℕ) (b : Bool) (n : ℕ) (s1 : List ℕ) : Type 0 where
  pub asked : Normalizing s v top c
  pub count : n ≡ length (visited_parts b (concept_at (words s) c))
  pub len : length s1 ≡ length s
  pub put : words s1 ≡ sets (words s) top (visited_parts b (concept_at (words s) c))

pub parted_after : {s s1 : List ℕ} {k v : Counters} {top c n : ℕ} {b : Bool} → visited k ≡ Begun v → Normalizing s k top c → n ≡ length (visited_parts b (concept_at (words s) c)) → length s1 ≡ length s
    → words s1 ≡ sets (words s) top (visited_parts b (concept_at (words s) c)) → Parted s v top c b n s1
parted_after {s} {k = k} {v = v} {top = top} {c = c} begun P count len put = record { asked = visit_begun k v begun s top c P; count = count; len = len; put = put }

-- and then normalised, which gives s2 and the answer r
pub record Normalized (m : Bool) (v : Counters) (top c : ℕ) (b : Bool) (n : ℕ) (s1 : List ℕ) (b' : Bool) (s2 : List ℕ) (r : Answer) : Type 0 where
  pub turned : b' ≡ part_negated b (concept_at (words s1) c)
  pub len : length s2 ≡ length s1
  pub gave : (F : ℕ → ℕ) → Deep c F → after_run r (run (words s2) top n) (words s2) ≡ told v (each (λ d. nnf_by b' (F d) d) (run (words s1) top n) (state_of v (words s1)))
  pub held : HeldRun r (words s2)
  pub kept : Kept top n (top + n) (words s1) (words s2)
  pub known : KnownAfter m r (words s2)

module _ {s : List ℕ} {v : Counters} {top c : ℕ} {b : Bool} {n : ℕ} {s1 : List ℕ} (P : Parted s v top c b n s1) where
  abbrev parts : List ℕ
  parts = visited_parts b (concept_at (words s) c)

  parts_room : top + length parts + members (pool_of (words s) c) + c ≤ normal_forms_at
  parts_room = omega (arith, P.asked.room, parts_few b (concept_at (words s) c), members_next (words s) c)

  pub parts_end : top + n ≤ normal_forms_at
  parts_end = omega (arith, parts_room, P.count)

  under : Under (words s) (words s1) v.concepts v.members
  under = rw P.put (under_sets (words s) v.concepts v.members P.asked.ready.held top (omega (arith, P.asked.above)) parts)

  pub parts_ready : Ready s1 v
  parts_ready = record { room = omega (arith, P.len, P.asked.ready.room); held = under.held }

  grown : Grown (pool_of (words s) v.concepts) (pool_of (words s1) v.concepts)
  grown = rw under.pool (grown_refl (pool_of (words s) v.concepts))

  same1 : concept_at (words s1) c ≡ concept_at (words s) c
  same1 = same_concept_lem (words s) (words s1) v.concepts v.concepts grown c P.asked.held

  run1 : run (words s1) top n ≡ parts
  run1 = rw (P.count, P.put) (run_sets (words s) parts top (omega (arith, parts_room, P.asked.space, length_words s)))

  wf1 : Wf P.asked.bounds (pool_of (words s1) v.concepts)
  wf1 = rw under.pool P.asked.wf

  pub run_call : NormalizingRun s1 v top n (top + n) c
  run_call = record {
    bounds = P.asked.bounds;
    ready = parts_ready;
    wf = wf1;
    inside = omega (arith, P.asked.held);
    below = rw run1 (parts_each (λ d. d < c) b (concept_at (words s) c) (P.asked.ready.held.records c P.asked.held).below);
    above = P.asked.above;
    apart = omega arith;
    room = rw (same_pool (words s) (words s1) v.concepts v.concepts grown c (omega (arith, P.asked.held))) (omega (arith, parts_room, P.count));
    space = omega (arith, P.len, P.asked.space);
  }

  -- what the rule says of the run; what its answers are, where it has them
  abbrev rule : Bool → ℕ → Res St (List ℕ)
  rule b' f = each (λ d. nnf_by b' f d) (run (words s1) top n) (state_of v (words s1))

  abbrev Made : List ℕ → St → Type 0
  Made = AllDone P.asked.bounds (1 + deepest_of (depth (pool_of (words s1) v.concepts)) (run (words s1) top n)) (state_of v (words s1))

  -- one step, after its visit
  step_is : (b' : Bool) → b' ≡ part_negated b (concept_at (words s1) c) → (f : ℕ) → step_by b f c (state_of v (words s)) ≡ then (rule b' f) (λ l. in_pool (rebuilt b c (concept_at (words s) c) l))
  step_is b' turned f =
      let t : b' ≡ part_negated b (concept_at (words s) c) = turned ∙ ap (part_negated b) same1 in
      rw (pool_at (words s) v.concepts c P.asked.held, run1, under.pool, t) refl

  -- what is known before them
  pub parts_known : (m : Bool) → KnownIf m (words s) v.concepts → KnownIf m (words s1) v.concepts
  parts_known m = known_if_on (words s) (words s1) v.concepts v.concepts grown
      (λ j lo hi. rw P.put (get_d_sets_after parts (words s) top j 0 (omega (arith, parts_room)))) m

  module _ {mm b' : Bool} {s2 : List ℕ} where
    state : {k : Counters} {i : ℕ} → Normalized mm v top c b n s1 b' s2 (Done k i) → (f : ℕ) → c ≤ f → Stated v k (run (words s2) top n) (words s2) (rule b' f)
    state {k} R f h = stated v k (run (words s2) top n) (words s2) (rule b' f) (R.gave (λ d. f) (λ d l. omega arith))

    made : {k : Counters} {i : ℕ} → Normalized mm v top c b n s1 b' s2 (Done k i) → Made (run (words s2) top n) (state_of k (words s2))
    made {k} R =
        stated_post Made v k (run (words s2) top n) (words s2) (rule b' c) (state R c (omega arith))
        (each_by_done P.asked.bounds b' (λ d. c) c (λ d h. h) (run (words s1) top n) run_call.below (state_of v (words s1)) wf1
        (rw (pool_length (words s1) v.concepts) (below_more run_call.inside (run (words s1) top n) run_call.below)))

    same2 : {k : Counters} {i : ℕ} → Normalized mm v top c b n s1 b' s2 (Done k i) → concept_at (words s2) c ≡ concept_at (words s) c
    same2 {k} R = same_concept_lem (words s1) (words s2) v.concepts k.concepts (made R).ran.grows c P.asked.held ∙ same1

    pub rebuild_call : {r : Answer} → Normalized mm v top c b n s1 b' s2 r → RebuildingAfter s2 r top c n b
    rebuild_call {r = Done k i} R = record {
      bounds = P.asked.bounds;
      ready = record { room = omega (arith, R.len, parts_ready.room); held = R.held };
      wf = (made R).ran.wf;
      held = omega (arith, P.asked.held, grown_count (words s1) (words s2) v.concepts k.concepts (made R).ran.grows);
      count = rw (same2 R) P.count;
      below = rw (pool_length (words s2) k.concepts) at (made R).held;
      above = P.asked.above;
      within = omega (arith, R.len, P.len, parts_end, P.asked.space);
    }
    rebuild_call {r = Refused e} R = tt

    -- the concept made again
    module _ (s3 : List ℕ) (r3 : Answer) where
      step_answer : {r : Answer} → Normalized mm v top c b n s1 b' s2 r → RebuiltAfter r top c n b (words s2) (words s3) r3
          → (f : ℕ) → c ≤ f → after r3 (words s3) ≡ told v (step_by b f c (state_of v (words s)))
      step_answer {r = Done k i} R m f h =
          m.equal
          ∙ ap (λ (e : Concept). shown k (rebuilt b c e (run (words s2) top n) (pool_of (words s2) k.concepts))) (same2 R)
          ∙ shown_told k (words s2) (rebuilt b c (concept_at (words s) c) (run (words s2) top n))
          ∙ sym (ap (told v) (step_is b' R.turned f)
          ∙ told_on v k (run (words s2) top n) (words s2) (rule b' f) (λ l. in_pool (rebuilt b c (concept_at (words s) c) l)) (state R f h))
      step_answer {r = Refused e} R m f h =
          ap (λ (a : Answer). after a (words s3)) m
          ∙ sym (ap (told v) (step_is b' R.turned f) ∙ rw (told_refused v e (rule b' f) (R.gave (λ d. f) (λ d l. omega arith))) refl)

      pub visit_answer : {r : Answer} → Normalized mm v top c b n s1 b' s2 r → RebuiltAfter r top c n b (words s2) (words s3) r3 → (k : Counters) → visited k ≡ Begun v
          → (f : ℕ) → c < f → after r3 (words s3) ≡ told k (nnf_by b f c (state_of k (words s)))
      visit_answer R m k begun zero h = absurd (omega arith)
      visit_answer R m k begun (suc f) h = step_answer R m f (omega arith) ∙ visit_told k v begun (words s) c b f

    pub visit_known : {r : Answer} → Normalized mm v top c b n s1 b' s2 r → (s3 : List ℕ) (r3 : Answer) → RebuiltAfter r top c n b (words s2) (words s3) r3
        → drop keys_at (words s3) ≡ drop keys_at (words s2) → KnownAfter mm r3 (words s3)
    visit_known {r = Done k i} R s3 (Done k3 i3) m frame =
        known_if_on (words s2) (words s3) k.concepts k3.concepts
        (grew k k3 i3 (words s3) (pool_of (words s2) k.concepts) _ m.equal
        (post_map (rebuilt_lasts b c (concept_at (words s2) c) (run (words s2) top n) (pool_of (words s2) k.concepts) (made R).held) (λ j q f. f.0)))
        (λ j lo hi. word_above keys_at (words s2) (words s3) frame j (omega arith)) mm R.known
    visit_known {r = Done k i} R s3 (Refused e) m frame = tt
    visit_known {r = Refused e} R s3 r3 m frame = rw m tt

    pub visit_kept : {r : Answer} → Normalized mm v top c b n s1 b' s2 r → (s3 : List ℕ) → drop keys_at (words s3) ≡ drop keys_at (words s2) → Kept top 0 top (words s) (words s3)
    visit_kept R s3 frame =
        kept_parts top (words s) parts P.asked.above (omega (arith, parts_room)) (words s2) (rw (P.count, P.put) at R.kept) (words s3) frame
