-- The loop over a run of concepts: its invariant, a turn, and the ways out. Assumes nothing.
use mathlib.Core.Path.{◌≡◌, refl, sym, ap, subst, ◌∙◌}
use mathlib.Core.Bool.{Bool}
use mathlib.Core.List.{List, [], ◌∷◌, ◌++◌, append-nil, append_assoc}
use Prim.Native.Nat.{ℕ, suc, ◌+◌, ◌-◌, ◌<◌, ◌≤◌}
use native.Mathlib.Omega.{arith}
use lib.ListN.{length, get_or, set}
use lib.Seq.{get_or-set_other}
use Rattle.words.specs.Words.{words}
use Rattle.words.specs.Laws.{length_words}
use Rattle.ir.specs.Scratch.{normal_forms_at}
use Rattle.ir.specs.declared.counters.Counters.{Counters}
use Rattle.ir.specs.Answer.{Answer}
use Rattle.ir.specs.Answer.{Done, Refused}
use Rattle.rules.specs.Base.{Res, ok, refused, then, return, each}
use Rattle.rules.specs.Pool.{members}
use Rattle.rules.specs.Normalize.{St, N, nnf_by}
use Rattle.rules.specs.Invariants.{Each, Bounds, Wf, Grown}
use Rattle.rules.specs.PoolLaws.{grown_refl, grown_trans}
use Rattle.rules.specs.DepthLaws.{depth}
use Rattle.rules.proofs.NormalizeLaws.{Done as IdDone}
use Rattle.pool.specs.Layout.{tab, run, pool_of}
use Rattle.pool.specs.Held.{Held}
use Rattle.pool.specs.Answers.{after, HeldAfter}
use Rattle.pool.specs.Tabs.{tab_next, tab_end}
use Rattle.pool.specs.HeldLaws.{pool_length, members_rise}
use Rattle.rebuilding.specs.States.{state_of, told, after_run, Kept, Normalizing, NormalizingRun}
use Rattle.normalize.specs.StateLaws.{counted_same, Stated, stated, stated_post, told_on, told_refused, grown_count, same_pool, by_done}
use Rattle.normalize.specs.Known.{KnownIf, KnownAfter}
use Rattle.normalize.specs.KnownLaws.{known_if_on}
use Rattle.normalize.specs.KeptLaws.{Under, under_set, kept_refl, kept_call, kept_set, run_next, run_rest}

-- every id below c has a depth above it
abbrev pub Deep : ℕ → (ℕ → ℕ) → Type 0
Deep c F = (d : ℕ) → d < c → d < F d

-- what the rule says of the whole run; of what is left of it, after the answers that are there
abbrev pub whole : Bool → (ℕ → ℕ) → Counters → List ℕ → ℕ → ℕ → Res St (List ℕ)
whole b F k w i n = each (λ d. nnf_by b (F d) d) (run w i n) (state_of k w)

abbrev pub left : Bool → (ℕ → ℕ) → Counters → List ℕ → ℕ → ℕ → ℕ → Res St (List ℕ)
left b F k w at n i = then (whole b F k w (at + i) (n - i)) (λ l. return (run w at i ++ l))

pub record Turn (s₀ : List ℕ) (k₀ : Counters) (at n top c : ℕ) (b m : Bool) (s : List ℕ) (k : Counters) (i : ℕ) : Type 0 where
  pub bounds : Bounds
  pub within : i ≤ n
  pub len : length s ≡ length s₀
  pub held : Held (words s) k.concepts k.members
  pub wf : Wf bounds (pool_of (words s) k.concepts)
  pub grows : Grown (pool_of (words s₀) k₀.concepts) (pool_of (words s) k.concepts)
  pub kept : Kept at n top (words s₀) (words s)
  pub below : Each (λ d. d < c) (run (words s) (at + i) (n - i))
  pub known : KnownIf m (words s) k.concepts
  pub rest : (F : ℕ → ℕ) → Deep c F → told k₀ (whole b F k₀ (words s₀) at n) ≡ told k (left b F k (words s) at n i)

-- what is known of concept d after a call: the bytes s' and the answer r
pub record Called (s : List ℕ) (k : Counters) (top : ℕ) (b m : Bool) (d : ℕ) (s' : List ℕ) (r : Answer) : Type 0 where
  pub len : length s' ≡ length s
  pub gave : (f : ℕ) → d < f → after r (words s') ≡ told k (nnf_by b f d (state_of k (words s)))
  pub held : HeldAfter r (words s')
  pub kept : Kept top 0 top (words s) (words s')
  pub known : KnownAfter m r (words s')

-- ---- answers in a row
then_return : (r : Res St (List ℕ)) → r ≡ then r (λ l. return l)
then_return (ok l s) = refl
then_return (refused e) = refl

-- one answer, then the others
one_first : (G : ℕ → N ℕ) (d : ℕ) (l done : List ℕ) (s : St) → then (each G (d ∷ l) s) (λ ks. return (done ++ ks)) ≡ then (G d s) (λ y u. then (each G l u) (λ ks. return (done ++ (y ∷ ks))))
unfolding each
one_first G d l done s = go (G d s)
  where
    on : (y : ℕ) (r : Res St (List ℕ)) → then (then r (λ ks. return (y ∷ ks))) (λ ks. return (done ++ ks)) ≡ then r (λ ks. return (done ++ (y ∷ ks)))
    on y (ok ks u) = refl
    on y (refused e) = refl

    go : (r : Res St ℕ) → then (then r (λ y u. then (each G l u) (λ ks. return (y ∷ ks)))) (λ ks. return (done ++ ks)) ≡ then r (λ y u. then (each G l u) (λ ks. return (done ++ (y ∷ ks))))
    go (ok y u) = on y (each G l u)
    go (refused e) = refl

then_map : (f g : List ℕ → List ℕ) (r : Res St (List ℕ)) → ((l : List ℕ) → f l ≡ g l) → then r (λ l. return (f l)) ≡ then r (λ l. return (g l))
then_map f g (ok l s) h = ap (λ (x : List ℕ). ok x s) (h l)
then_map f g (refused e) h = refl

module _ {s₀ : List ℕ} {k₀ : Counters} {at n top c : ℕ} (P : NormalizingRun s₀ k₀ at n top c) where
  pub turn_first : (b m : Bool) → KnownIf m (words s₀) k₀.concepts → Turn s₀ k₀ at n top c b m s₀ k₀ 0
  unfolding tab
  turn_first b m K =
      let a : at + 0 ≡ at = omega arith in
      let o : n - 0 ≡ n = omega arith in
      record {
        bounds = P.bounds;
        within = omega arith;
        len = refl;
        held = P.ready.held;
        wf = P.wf;
        grows = grown_refl (pool_of (words s₀) k₀.concepts);
        kept = kept_refl at n top (words s₀);
        below = rw (a, o) P.below;
        known = K;
        rest = λ F h. rw (a, o) (ap (told k₀) (then_return (whole b F k₀ (words s₀) at n)));
      }

  module _ {b m : Bool} {s : List ℕ} {k : Counters} {i : ℕ} (T : Turn s₀ k₀ at n top c b m s k i) where
    -- ---- after the last
    pub turn_end : n ≤ i → (F : ℕ → ℕ) → Deep c F → after_run (Done k 0) (run (words s) at n) (words s) ≡ told k₀ (whole b F k₀ (words s₀) at n)
    unfolding each
    turn_end h F deep =
        let e : i ≡ n = omega (arith, T.within) in
        let l : run (words s) (at + i) (n - i) ≡ [] = tab_end (λ j. get_or (words s) j 0) at i n h in
        let a : run (words s) at i ++ [] ≡ run (words s) at n = append-nil (run (words s) at i) ∙ ap (run (words s) at) e in
        sym (T.rest F deep ∙ rw (l, a, counted_same (words s) k T.held) refl)

    -- ---- a turn
    module _ (lt : i < n) where
      room_now : top + members (pool_of (words s) c) + c ≤ normal_forms_at
      room_now = rw (same_pool (words s₀) (words s) k₀.concepts k.concepts T.grows c P.inside) P.room

      next_run : run (words s) (at + i) (n - i) ≡ get_or (words s) (at + i) 0 ∷ run (words s) (at + (i + 1)) (n - (i + 1))
      next_run = tab_next (λ j. get_or (words s) j 0) at i n lt

      next_below : Each (λ d. d < c) (get_or (words s) (at + i) 0 ∷ run (words s) (at + (i + 1)) (n - (i + 1)))
      next_below = subst (Each (λ d. d < c)) next_run T.below

      turn_member : get_or (words s) (at + i) 0 < c
      turn_member = next_below.0

      module _ {d : ℕ} (e : d ≡ get_or (words s) (at + i) 0) where
        pub turn_below : d < c
        turn_below = rw e turn_member

        pub turn_call : Normalizing s k top d
        turn_call = record {
          bounds = T.bounds;
          ready = record { room = omega (arith, T.len, P.ready.room); held = T.held };
          wf = T.wf;
          held = omega (arith, turn_below, P.inside, grown_count (words s₀) (words s) k₀.concepts k.concepts T.grows);
          above = omega (arith, P.above, P.apart);
          room = omega (arith, room_now, turn_below, members_rise (words s) (suc d) c turn_below);
          space = omega (arith, T.len, P.space);
        }

        module _ {s' : List ℕ} {r : Answer} (C : Called s k top b m d s' r) where
          one_more_lem : (F : ℕ → ℕ) → Deep c F → told k₀ (whole b F k₀ (words s₀) at n) ≡ told k (then (nnf_by b (F d) d (state_of k (words s)))
              (λ y u. then (each (λ d. nnf_by b (F d) d) (run (words s) (at + (i + 1)) (n - (i + 1))) u) (λ l. return (run (words s) at i ++ (y ∷ l)))))
          one_more_lem F deep =
              T.rest F deep
              ∙ ap (λ (l : List ℕ). told k (then (each (λ d. nnf_by b (F d) d) l (state_of k (words s))) (λ l. return (run (words s) at i ++ l))))
              (next_run ∙ ap (λ (x : ℕ). x ∷ run (words s) (at + (i + 1)) (n - (i + 1))) (sym e))
              ∙ ap (told k) (one_first (λ d. nnf_by b (F d) d) d (run (words s) (at + (i + 1)) (n - (i + 1))) (run (words s) at i) (state_of k (words s)))

          pub turn_kept : Kept at n top (words s₀) (words s')
          turn_kept = kept_call at n top (words s₀) (words s) T.kept P.apart (words s') C.kept P.above

          pub turn_stop : (x : ℕ) → r ≡ Refused x → (l : List ℕ) (F : ℕ → ℕ) → Deep c F → after_run (Refused x) l (words s') ≡ told k₀ (whole b F k₀ (words s₀) at n)
          turn_stop x q l F deep =
              let g : refused x ≡ told k (nnf_by b (F d) d (state_of k (words s))) = sym (rw q refl) ∙ C.gave (F d) (deep d turn_below) in
              sym (one_more_lem F deep ∙ rw (told_refused k x (nnf_by b (F d) d (state_of k (words s))) g) refl)

          module _ {k' : Counters} {y : ℕ} (q : r ≡ Done k' y) (s'' : List ℕ) (l : length s'' ≡ length s') (put : words s'' ≡ set (words s') (at + i) y) where
            state : (f : ℕ) → d < f → Stated k k' y (words s') (nnf_by b f d (state_of k (words s)))
            state f h = stated k k' y (words s') (nnf_by b f d (state_of k (words s))) (sym (ap (λ (a : Answer). after a (words s')) q) ∙ C.gave f h)

            done : IdDone T.bounds (1 + depth (pool_of (words s) k.concepts) d) (state_of k (words s)) y (state_of k' (words s'))
            done = stated_post (IdDone T.bounds (1 + depth (pool_of (words s) k.concepts) d) (state_of k (words s))) k k' y (words s') (nnf_by b (suc d) d (state_of k (words s))) (state (suc d) (omega arith))
                (by_done T.bounds b (suc d) d (state_of k (words s)) T.wf (rw (pool_length (words s) k.concepts) turn_call.held) (omega arith))

            held' : Held (words s') k'.concepts k'.members
            held' = (subst (λ (a : Answer). HeldAfter a (words s')) q C.held).0

            under' : Under (words s') (set (words s') (at + i) y) k'.concepts k'.members
            under' = under_set (words s') k'.concepts k'.members held' (at + i) (omega (arith, P.above)) y

            pool'' : pool_of (words s'') k'.concepts ≡ pool_of (words s') k'.concepts
            pool'' = rw put under'.pool

            same : (j : ℕ) → j < n → get_or (words s') (at + j) 0 ≡ get_or (words s) (at + j) 0
            same j h = C.kept.before (at + j) (omega (arith, P.above)) (omega (arith, P.apart))

            run_done : run (words s'') at (i + 1) ≡ run (words s) at i ++ (y ∷ [])
            run_done =
                rw put (run_next (words s) (words s') at i y (λ j h. same j (omega arith))
                (omega (arith, length_words s', C.len, T.len, P.space, P.apart, P.room)))

            run_left_lem : run (words s'') (at + (i + 1)) (n - (i + 1)) ≡ run (words s) (at + (i + 1)) (n - (i + 1))
            run_left_lem =
                rw put (run_rest (words s) (words s') (at + i) (n - (i + 1)) y (at + (i + 1)) (omega arith)
                (λ j h. let z : at + (i + 1) + j ≡ at + (i + 1 + j) = omega arith in rw z (same (i + 1 + j) (omega arith))))

            known' : KnownIf m (words s'') k'.concepts
            known' =
                known_if_on (words s') (words s'') k'.concepts k'.concepts (rw pool'' (grown_refl (pool_of (words s') k'.concepts)))
                (λ j lo hi. rw put (get_or-set_other (words s') (at + i) j y 0 (λ (e : j ≡ at + i). absurd (omega (arith, P.apart, P.room)))))
                m (subst (λ (a : Answer). KnownAfter m a (words s')) q C.known)

            pub turn_next : Turn s₀ k₀ at n top c b m s'' k' (i + 1)
            turn_next = record {
              bounds = T.bounds;
              within = omega arith;
              len = l ∙ C.len ∙ T.len;
              held = rw put under'.held;
              wf = rw pool'' done.ran.wf;
              grows = rw pool'' (grown_trans T.grows done.ran.grows);
              kept = rw put (kept_set at n top (words s₀) (words s') turn_kept (at + i) y (omega arith) (omega arith) (omega (arith, P.apart, P.room)));
              below = rw run_left_lem next_below.1;
              known = known';
              rest = λ F deep. one_more_lem F deep
                  ∙ told_on k k' y (words s') (nnf_by b (F d) d (state_of k (words s)))
                  (λ y u. then (each (λ d. nnf_by b (F d) d) (run (words s) (at + (i + 1)) (n - (i + 1))) u) (λ l. return (run (words s) at i ++ (y ∷ l)))) (state (F d) (deep d turn_below))
                  ∙ rw (run_left_lem, run_done, pool'') (ap (told k') (then_map (λ l. run (words s) at i ++ (y ∷ l)) (λ l. (run (words s) at i ++ (y ∷ [])) ++ l)
                  (each (λ d. nnf_by b (F d) d) (run (words s) (at + (i + 1)) (n - (i + 1))) (state_of k' (words s'))) (λ l. sym (append_assoc (run (words s) at i) (y ∷ []) l))));
            }
