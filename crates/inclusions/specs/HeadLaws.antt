-- The heads over a hard antecedent and the conjunction of its soft conjuncts, as the code makes them. Assumes nothing.
use Rattle.std.specs.Prelude.{◌≡◌, true, List, [], ◌∷◌, ◌++◌, ℕ, suc, ◌+◌, ◌<◌, ◌≤◌, length, set}
use Rattle.std.proofs.Math.Path.{refl}
use Rattle.std.proofs.Common.{sym, ap, subst, ◌∙◌, arith, get_or-set_same}
use Prim.{tt}
use Rattle.std.proofs.Math.ListN.{get_or}
use Rattle.std.proofs.Math.Seq.{get_or-set_other}
use Rattle.words.specs.Words.{words}
use Rattle.words.specs.Laws.{length_words}
use Rattle.ir.specs.Scratch.{marks_at, stack_at}
use Rattle.ir.specs.declared.counters.Counters.{Counters}
use Rattle.ir.specs.Answer.{Answer}
use Rattle.ir.specs.Answer.{Done, Refused}
use Rattle.rules.specs.Base.{Res, each}
use Rattle.rules.specs.Pool.{mk_and, mk_or, members, most_members}
use Rattle.rules.specs.Normalize.{St, N, in_pool, push_negation_in, nnf_complement, nnf_by}
use Rattle.rules.specs.Invariants.{Each}
use Rattle.rules.specs.EachLaws.{each_snoc}
use Rattle.rules.specs.PoolLaws.{grown_length, below_more}
use Rattle.rules.proofs.NormalizeLaws.{Done as IdDone, AllDone, negation_done}
use Rattle.rules.specs.DepthLaws.{deepest_of, depth}
use Rattle.pool.specs.Layout.{tab, run, pool_of}
use Rattle.pool.specs.Tabs.{length_tab}
use Rattle.pool.specs.HeldLaws.{pool_length, members_rise}
use Rattle.pool.specs.Answers as Pools
use Rattle.pool.specs.Answers.{after, HeldAfter}
use Rattle.pool.specs.Marks.{Beside, Operands}
use Rattle.rebuilding.specs.States.{state_of, told, after_run, HeldRun, Kept, Normalizing, NormalizingRun}
use Rattle.normalize.specs.StateLaws.{counted_same, Stated, stated, stated_post, shown_told, each_by_done}
use Rattle.normalize.specs.KeptLaws.{Under, under_set, run_next}
use Rattle.tables.specs.Good.{Good}
use Rattle.leaves.specs.Reading.{Reading}
use Rattle.inclusions.specs.InternLaws.{aside_refl, aside_then, aside_kept, aside_set, aside_beside, alone_ran, over_ran, soft_ran, normalised, then_made, then_refused}
use Rattle.inclusions.specs.Parted.{soft_at, hard_at, in_parts_bytes, head_alone, head_over, soft_and_of, Normalised}

module _ (k : Counters) (s : List ℕ) (R : Reading s k) (G : Good k) (room : in_parts_bytes ≤ length s) where
  -- as long as the pool
  long : length (pool_of (words s) k.concepts) ≡ k.concepts
  long = pool_length (words s) k.concepts

  -- ---- head_alone
  module _ (sub sup : ℕ) (hs : sub < k.concepts) (hp : sup < k.concepts) where
    pub alone_asks : Normalizing s k stack_at sub
    alone_asks =
        let H = R.ready.held in
        record {
          bounds = R.bounds;
          ready = R.ready;
          wf = R.wf;
          held = hs;
          above = omega arith;
          room = omega (arith, members_rise (words s) (suc sub) k.concepts hs, H.count, H.space, H.few);
          space = R.room;
        }

    module _ (s1 : List ℕ) (r1 : Answer) (n1 : length s1 ≡ length s) (E : (f : ℕ) → sub < f → after r1 (words s1) ≡ told k (push_negation_in f sub (state_of k (words s)))) (H1 : HeldAfter r1 (words s1))
        (K : Kept stack_at 0 stack_at (words s) (words s1)) where
      pub alone_refused : (e : ℕ) → r1 ≡ Refused e → Normalised (head_alone sub sup) k s s1 (Refused e)
      alone_refused e q =
          normalised (head_alone sub sup) k s s1 R G n1 (alone_ran R.bounds (state_of k (words s)) R.wf sub sup (rw long hs) (rw long hp)) (Refused e)
          (then_refused k e (nnf_complement sub (state_of k (words s))) (λ i. in_pool (mk_or (i ∷ sup ∷ []))) (subst (λ (x : Answer). after x (words s1) ≡ told k (nnf_complement sub (state_of k (words s)))) q (E (suc sub) (omega arith))))
          tt (aside_kept 0 stack_at (words s) (words s1) K)

      module _ (l : Counters) (i : ℕ) (q : r1 ≡ Done l i) (s2 s3 : List ℕ) (n2 : length s2 ≡ length s1) (n3 : length s3 ≡ length s2) (e2 : words s2 ≡ set (words s1) hard_at i) (e3 : words s3 ≡ set (words s2) (hard_at + 1) sup) where
        given : Stated k l i (words s1) (nnf_complement sub (state_of k (words s)))
        given = stated k l i (words s1) (nnf_complement sub (state_of k (words s))) (subst (λ (x : Answer). after x (words s1) ≡ told k (nnf_complement sub (state_of k (words s)))) q (E (suc sub) (omega arith)))

        held : HeldAfter (Done l i) (words s1)
        held = subst (λ (x : Answer). HeldAfter x (words s1)) q H1

        grows : k.concepts ≤ l.concepts
        grows =
            let D = stated_post (IdDone R.bounds (suc (depth (pool_of (words s) k.concepts) sub)) (state_of k (words s))) k l i (words s1) (nnf_complement sub (state_of k (words s))) given
            (negation_done R.bounds (suc sub) sub (state_of k (words s)) R.wf (rw long hs) (omega arith)) in
            omega (arith, grown_length D.ran.grows, long, pool_length (words s1) l.concepts)

        under2 : Under (words s1) (words s2) l.concepts l.members
        under2 = rw e2 (under_set (words s1) l.concepts l.members held.0 hard_at (omega arith) i)

        under3 : Under (words s2) (words s3) l.concepts l.members
        under3 = rw e3 (under_set (words s2) l.concepts l.members under2.held (hard_at + 1) (omega arith) sup)

        two : run (words s3) hard_at 2 ≡ i ∷ sup ∷ []
        unfolding tab
        two =
            let l1 = length_words s1 in
            let l2 = length_words s2 in
            let a : get_or (words s3) hard_at 0 ≡ i = rw (e3, get_or-set_other (words s2) (hard_at + 1) hard_at sup 0 (λ (e : hard_at ≡ hard_at + 1). absurd (omega arith)), e2) (get_or-set_same (words s1) hard_at i 0 (omega arith)) in
            let b : get_or (words s3) (hard_at + 1) 0 ≡ sup = rw e3 (get_or-set_same (words s2) (hard_at + 1) sup 0 (omega arith)) in
            cc

        pub alone_operands : Operands s3 l marks_at hard_at 2
        alone_operands = record {
          ready = record { room = omega (arith, R.ready.room, n1, n2, n3); held = under3.held };
          above = omega arith;
          apart = omega arith;
          within = omega (arith, n1, n2, n3);
          below = rw two (held.1, (omega (arith, grows, hp), tt));
        }

        pub alone_done : (s4 : List ℕ) (r : Answer) → length s4 ≡ length s3 → Pools.Interned l (mk_or (run (words s3) hard_at 2)) (words s3) (words s4) r → Beside marks_at (words s3) (words s4) → Normalised (head_alone sub sup) k s s4 r
        alone_done s4 r n4 I O =
            let e : after r (words s4) ≡ Pools.shown l (mk_or (i ∷ sup ∷ []) (pool_of (words s3) l.concepts)) = I.equal ∙ ap (λ (x : List ℕ). Pools.shown l (mk_or x (pool_of (words s3) l.concepts))) two in
            normalised (head_alone sub sup) k s s4 R G (n4 ∙ n3 ∙ n2 ∙ n1) (alone_ran R.bounds (state_of k (words s)) R.wf sub sup (rw long hs) (rw long hp)) r
            (then_made k l i (words s1) (words s3) (words s4) (nnf_complement sub (state_of k (words s))) (λ i. mk_or (i ∷ sup ∷ [])) r given (under3.pool ∙ under2.pool) e)
            I.held
            (aside_then (words s) (words s3) (words s4) (aside_then (words s) (words s2) (words s3)
            (aside_then (words s) (words s1) (words s2) (aside_kept 0 stack_at (words s) (words s1) K) (aside_set (words s1) (words s2) hard_at i (omega arith) (omega arith) e2))
            (aside_set (words s2) (words s3) (hard_at + 1) sup (omega arith) (omega arith) e3)) (aside_beside (words s3) (words s4) O))

  -- ---- head_over
  module _ (hard sub sup : ℕ) (hs : sub < k.concepts) (hp : sup < k.concepts) (below : Each (λ d. d < sub) (run (words s) hard_at hard)) (few : hard + members (pool_of (words s) sub) ≤ most_members) where
    pub over_asks : NormalizingRun s k hard_at hard (hard_at + hard) sub
    over_asks = record {
      bounds = R.bounds;
      ready = R.ready;
      wf = R.wf;
      inside = omega arith;
      below = below;
      above = omega arith;
      apart = omega arith;
      room = omega (arith, R.ready.held.few);
      space = R.room;
    }

    abbrev list : List ℕ
    list = run (words s) hard_at hard

    abbrev X : Res St (List ℕ)
    X = each nnf_complement list (state_of k (words s))

    in_pool_lem : Each (λ d. d < length (pool_of (words s) k.concepts)) list
    in_pool_lem = below_more (omega (arith, long)) list below

    module _ (s1 : List ℕ) (r1 : Answer) (n1 : length s1 ≡ length s)
        (E : (F : ℕ → ℕ) → ((d : ℕ) → d < sub → d < F d) → after_run r1 (run (words s1) hard_at hard) (words s1) ≡ told k (each (λ d. nnf_by true (F d) d) list (state_of k (words s)))) (H1 : HeldRun r1 (words s1))
        (K : Kept hard_at hard (hard_at + hard) (words s) (words s1)) where
      equal : after_run r1 (run (words s1) hard_at hard) (words s1) ≡ told k X
      equal = E suc (λ d j. omega arith)

      pub over_refused : (e : ℕ) → r1 ≡ Refused e → Normalised (head_over list sup) k s s1 (Refused e)
      over_refused e q =
          normalised (head_over list sup) k s s1 R G n1 (over_ran R.bounds (state_of k (words s)) R.wf list sup in_pool_lem (rw long hp)) (Refused e)
          (then_refused k e X (λ l. in_pool (mk_or (l ++ (sup ∷ [])))) (subst (λ (x : Answer). after_run x (run (words s1) hard_at hard) (words s1) ≡ told k X) q equal))
          tt (aside_kept hard (hard_at + hard) (words s) (words s1) K)

      module _ (l : Counters) (z : ℕ) (q : r1 ≡ Done l z) (s2 : List ℕ) (n2 : length s2 ≡ length s1) (e2 : words s2 ≡ set (words s1) (hard_at + hard) sup) where
        abbrev made : List ℕ
        made = run (words s1) hard_at hard

        all : Stated k l made (words s1) X
        all = stated k l made (words s1) X (subst (λ (x : Answer). after_run x made (words s1) ≡ told k X) q equal)

        done : AllDone R.bounds (1 + deepest_of (depth (pool_of (words s) k.concepts)) list) (state_of k (words s)) made (state_of l (words s1))
        done = stated_post (AllDone R.bounds (1 + deepest_of (depth (pool_of (words s) k.concepts)) list) (state_of k (words s))) k l made (words s1) X all
            (each_by_done R.bounds true suc (length (pool_of (words s) k.concepts)) (λ d j. omega arith) list in_pool_lem (state_of k (words s)) R.wf in_pool_lem)

        under : Under (words s1) (words s2) l.concepts l.members
        under = rw e2 (under_set (words s1) l.concepts l.members (subst (λ (x : Answer). HeldRun x (words s1)) q H1) (hard_at + hard) (omega arith) sup)

        more : run (words s2) hard_at (hard + 1) ≡ made ++ (sup ∷ [])
        more = let l1 = length_words s1 in rw e2 (run_next (words s1) (words s1) hard_at hard sup (λ _ _. refl) (omega arith))

        pub over_operands : Operands s2 l marks_at hard_at (hard + 1)
        over_operands =
            let p = pool_length (words s1) l.concepts in
            record {
              ready = record { room = omega (arith, R.ready.room, n1, n2); held = under.held };
              above = omega arith;
              apart = omega arith;
              within = omega (arith, n1, n2);
              below = rw more (each_snoc (λ d. d < l.concepts) made sup (below_more (omega (arith, p)) made done.held) (omega (arith, grown_length done.ran.grows, long, p)));
            }

        pub over_done : (s3 : List ℕ) (r : Answer) → length s3 ≡ length s2 → Pools.Interned l (mk_or (run (words s2) hard_at (hard + 1))) (words s2) (words s3) r → Beside marks_at (words s2) (words s3) → Normalised (head_over list sup) k s s3 r
        over_done s3 r n3 I O =
            let e : after r (words s3) ≡ Pools.shown l (mk_or (made ++ (sup ∷ [])) (pool_of (words s2) l.concepts)) = I.equal ∙ ap (λ (x : List ℕ). Pools.shown l (mk_or x (pool_of (words s2) l.concepts))) more in
            normalised (head_over list sup) k s s3 R G (n3 ∙ n2 ∙ n1) (over_ran R.bounds (state_of k (words s)) R.wf list sup in_pool_lem (rw long hp)) r
            (then_made k l made (words s1) (words s2) (words s3) X (λ l. mk_or (l ++ (sup ∷ []))) r all under.pool e)
            I.held
            (aside_then (words s) (words s2) (words s3) (aside_then (words s) (words s1) (words s2) (aside_kept hard (hard_at + hard) (words s) (words s1) K) (aside_set (words s1) (words s2) (hard_at + hard) sup (omega arith) (omega arith) e2))
            (aside_beside (words s2) (words s3) O))

  -- ---- soft_and
  module _ (soft : ℕ) (few : soft ≤ most_members) (inside : Each (λ d. d < k.concepts) (run (words s) soft_at soft)) where
    soft_pool : Each (λ d. d < length (pool_of (words s) k.concepts)) (run (words s) soft_at soft)
    soft_pool = below_more (omega (arith, long)) (run (words s) soft_at soft) inside

    -- of one that one
    pub soft_one : soft ≡ 1 → (i : ℕ) → i ≡ get_or (words s) soft_at 0 → Normalised (soft_and_of (run (words s) soft_at soft)) k s s (Done k i)
    unfolding tab
    soft_one one i e =
        let b : i < k.concepts = rw e (rw one at inside).0 in
        normalised (soft_and_of (run (words s) soft_at soft)) k s s R G refl (soft_ran R.bounds (state_of k (words s)) R.wf (run (words s) soft_at soft) soft_pool) (Done k i)
        (rw (one, e, counted_same (words s) k R.ready.held) refl) (R.ready.held, b) (aside_refl (words s))

    list_and : (l : List ℕ) → (length l ≡ 1 → ⊥) → soft_and_of l ≡ in_pool (mk_and l)
    list_and [] h = refl
    list_and (a ∷ []) h = absurd (h refl)
    list_and (a ∷ b ∷ l) h = refl

    -- of none or several their And
    pub soft_many : (soft ≡ 1 → ⊥) → (s1 : List ℕ) (r : Answer) → length s1 ≡ length s → Pools.Interned k (mk_and (run (words s) soft_at soft)) (words s) (words s1) r → Beside marks_at (words s) (words s1) → Normalised (soft_and_of (run (words s) soft_at soft)) k s s1 r
    soft_many h s1 r n1 I O =
        let q = length_tab (λ j. get_or (words s) j 0) soft_at soft in
        normalised (soft_and_of (run (words s) soft_at soft)) k s s1 R G n1 (soft_ran R.bounds (state_of k (words s)) R.wf (run (words s) soft_at soft) soft_pool) r
        (I.equal ∙ shown_told k (words s) (mk_and (run (words s) soft_at soft)) ∙ ap (λ (f : N ℕ). told k (f (state_of k (words s)))) (sym (list_and (run (words s) soft_at soft) (λ e. h (sym q ∙ e)))))
        I.held (aside_beside (words s) (words s1) O)
