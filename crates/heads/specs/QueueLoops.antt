-- The loops of And and Or: what waits after the turns to come waits after the whole. Assumes nothing.
use Rattle.std.specs.Prelude.{◌≡◌, List, [], ◌∷◌, ◌++◌, ℕ, suc, ◌+◌, ◌*◌, ◌-◌, ◌≤◌, ◌<◌, length}
use Rattle.std.proofs.Common.{sym, subst, arith, lt-ltb}
use Rattle.std.proofs.Math.Option.{Option, none, some}
use Prim.{Unit}
use Rattle.std.proofs.Math.ListN.{get_or, length-append}
use Rattle.std.proofs.lemmas.List.Edits.{sets}
use Rattle.ir.specs.Records.{six}
use Rattle.ir.specs.Scratch.{hands_at, limits_at}
use Rattle.ir.specs.declared.counters.Counters.{Counters}
use Rattle.ir.specs.Answer.{Answer}
use Rattle.ir.specs.Answer.{Done}
use Rattle.ir.specs.Headed.{Headed}
use Rattle.ir.specs.Headed as Head
use Rattle.ir.specs.declared.atom.Atom.{Atom}
use Rattle.ir.specs.declared.deferral.Deferral.TheVariants.{HeadOrDisjunct}
use Rattle.rules.specs.Base.{Res, ok, refused, then, for_each}
use Rattle.rules.specs.Concept.{Concept}
use Rattle.rules.specs.Concept.{And, Or}
use Rattle.rules.specs.Pool.{Pool}
use Rattle.rules.specs.State.{Limit, Env, Out, with, push, defer}
use Rattle.rules.specs.Heads.{emit_by, emit_step, head_atom_for, heads}
use Rattle.rules.specs.Post.{gives, refuses, give}
use Rattle.pool.specs.Layout.{run}
use Rattle.pool.specs.Tabs.{tab_end}
use Rattle.tables.specs.Drawn.{Tables, tables, show}
use Rattle.waiting.specs.Limits.{Waits, Behind}
use Rattle.waiting.specs.LimitLaws.{behind_same, waits_kept}
use Rattle.hands.specs.Hands.{InHand, Four, four, EnvHeld, Did, Waiting, Queues}
use Rattle.hands.specs.HandLaws.{put_behind, hand_kept}
use Rattle.rules.proofs.WholeLaws.{push_leaves, defer_leaves}
use Rattle.hands.specs.QueueLaws.{waiting_kept, waiting_done}
use Rattle.leaves.specs.Made.{headed, shown_atom, DidAtom}
use Rattle.leaves.specs.StepLaws.{drawn_alike, hand_zero}
use Rattle.heads.specs.LoopLaws.{SameSizes, held_on, Turn, went, one, or_from, Turned, asked, first_of_lem, next, turn}

-- ---- And
pub record TurnQueues (P : Pool) (w₀ : List ℕ) (a count : ℕ) (k₀ : Counters) (base n c v : ℕ) (x₀ x : Four) (k : Counters) (i : ℕ) : Type 0 where
  pub rest : (env : Env) (f : ℕ) (b : List Atom) (s : Out) (p : List Limit) (w : List ℕ) → c ≤ f → EnvHeld env k₀ x₀ → InHand x₀.scratch base n b → tables k₀ x₀.clauses x₀.atoms x₀.deferrals ≡ show k₀ env.rooms s → Waits x₀.scratch (p ++ s.limits)
      → ((s' : Out) → tables k x.clauses x.atoms x.deferrals ≡ show k₀ env.rooms s' → Waits x.scratch (p ++ s'.limits) → Waiting w p (for_each (λ d. emit_by env P f b d v) (run w₀ (a + i) (count - i)) s'))
      → Waiting w p (for_each (λ d. emit_by env P f b d v) (run w₀ a count) s)

module _ (P : Pool) (w₀ : List ℕ) (a count : ℕ) (k₀ : Counters) (base n c v : ℕ) (x₀ : Four) where
  module _ (x : Four) (k : Counters) (i : ℕ) (T : TurnQueues P w₀ a count k₀ base n c v x₀ x k i) where
    pub turn_queues_end : (e : Concept) → e ≡ And (run w₀ a count) → count ≤ i → Queues c (λ env f b s. emit_step env P (λ h d u. emit_by env P f h d u) b v e s) k₀ base n x₀ x
    unfolding emit_step for_each
    turn_queues_end e q h = record {
      waits = λ env f b s p lo E j t W. rw q (T.rest env f b s p x.scratch lo E j t W (λ s' t' W'. rw (tab_end (λ z. get_or w₀ z 0) a i count h) (give W')));
    }

    module _ (m : ℕ) (Q : Pool) (y : Four) (r : Answer) (U : Turn P w₀ a count k₀ base n c v x₀ x k i) (ab : hands_at ≤ 6 * base) (S : SameSizes x₀ x) (lt : i < count) (em : m ≡ get_or w₀ (a + i) 0) (less : m < c) (ep : Q ≡ P)
        (D : Did (λ _. 0) (suc m) (λ env f b s. emit_by env Q f b m v s) k base n x y r) (G : Queues (suc m) (λ env f b s. emit_by env Q f b m v s) k base n x y) where
      waited : (env : Env) (f : ℕ) (b : List Atom) (s' : Out) (p : List Limit) → c ≤ f → EnvHeld env k₀ x₀ → InHand x₀.scratch base n b → tables k x.clauses x.atoms x.deferrals ≡ show k₀ env.rooms s'
          → Waits x.scratch (p ++ s'.limits) → Waiting y.scratch p (emit_by env P f b m v s')
      waited env f b s' p lo E j t W =
          subst (λ (o : Pool). Waiting y.scratch p (emit_by env o f b m v s')) ep
          (G.waits env f b s' p (omega arith) (held_on env k₀ k x₀ x (base + n) U.alike (omega arith) U.frame S E) (hand_kept base n x₀.scratch x.scratch b U.frame j)
          (drawn_alike k₀ k env.rooms s' x.clauses x.atoms x.deferrals U.alike t) W)

      pub turn_queues_next : (k' : Counters) (o : ℕ) → r ≡ Done k' o → TurnQueues P w₀ a count k₀ base n c v x₀ y k' (i + 1)
      unfolding for_each
      turn_queues_next k' o er = record {
        rest = λ env f b s p w lo E j t W go. T.rest env f b s p w lo E j t W (λ s' t' W'. rw (one P w₀ a count k₀ base n c v x₀ x k i U m Q y r ab S lt em less ep D)
            (waiting_done (λ (_ : Unit {0}). 0) k₀ env.rooms y.clauses y.atoms y.deferrals y.scratch w p r k' o (emit_by env P f b m v s') (λ _ u. for_each (λ d. emit_by env P f b d v) (run w₀ (a + (i + 1)) (count - (i + 1))) u) er
            (went P w₀ a count k₀ base n c v x₀ x k i U m Q y r ab S lt em less ep D env f b s' lo E j t') (waited env f b s' p lo E j t' W') (λ z s₁ t₁ W₁. go s₁ t₁ W₁)));
      }

-- ---- after an answer of head_atom_for
given : {A : Type 0} (w : List ℕ) (p : List Limit) (o : A) (s : Out) → Waiting w p (ok o s) → Waits w (p ++ s.limits)
given w p o s (gives h) = h

module _ (env : Env) (k : Counters) (c a d : List ℕ) (r : Headed) (w w' : List ℕ) (p : List Limit) (g : Option Atom → Out → Res Out (Unit {0})) where
  waiting_made : (X : Res Out (Option Atom)) (k' : Counters) (y : Atom) → r ≡ Head.Made k' y → headed r c a d ≡ shown_atom env k X → Waiting w p X
      → ((s : Out) → tables k' c a d ≡ show k env.rooms s → Waits w (p ++ s.limits) → Waiting w' p (g (some y) s)) → Waiting w' p (then X g)
  waiting_made (ok o s) k' y e h W f =
      let t : ◌≡◌ {A = Res Tables (Option Atom)} (ok (some y) (tables k' c a d)) (ok o (show k env.rooms s)) = subst (λ (z : Headed). headed z c a d ≡ ok o (show k env.rooms s)) e h in
      let u : some y ≡ o = cc in
      subst (λ (z : Option Atom). Waiting w' p (g z s)) u (f s (cc) (given w p o s W))
  waiting_made (refused n) k' y e h W f = refuses

  waiting_absent : (X : Res Out (Option Atom)) (k' : Counters) → r ≡ Head.Absent k' → headed r c a d ≡ shown_atom env k X → Waiting w p X
      → ((s : Out) → Waits w (p ++ s.limits) → Waiting w' p (g none s)) → Waiting w' p (then X g)
  waiting_absent (ok o s) k' e h W f =
      let t : ◌≡◌ {A = Res Tables (Option Atom)} (ok none (tables k' c a d)) (ok o (show k env.rooms s)) = subst (λ (z : Headed). headed z c a d ≡ ok o (show k env.rooms s)) e h in
      let u : none ≡ o = cc in
      subst (λ (z : Option Atom). Waiting w' p (g z s)) u (f s (given w p o s W))
  waiting_absent (refused n) k' e h W f = refuses

-- ---- Or
pub record TurnedQueues (P : Pool) (w₀ : List ℕ) (a count : ℕ) (k₀ : Counters) (base n c v : ℕ) (x₀ x : Four) (k : Counters) (i : ℕ) : Type 0 where
  pub rest : (env : Env) (f : ℕ) (b : List Atom) (s : Out) (p : List Limit) (w : List ℕ) → c ≤ f → EnvHeld env k₀ x₀ → InHand x₀.scratch base n b → tables k₀ x₀.clauses x₀.atoms x₀.deferrals ≡ show k₀ env.rooms s → Waits x₀.scratch (p ++ s.limits)
      → ((s' : Out) (hs : List Atom) → i ≡ length hs → tables k x.clauses x.atoms x.deferrals ≡ show k₀ env.rooms s' → Waits x.scratch (p ++ s'.limits) → Waiting w p (or_from env P f b v (run w₀ (a + i) (count - i)) hs s'))
      → Waiting w p (or_from env P f b v (run w₀ a count) [] s)

module _ (P : Pool) (w₀ : List ℕ) (a count : ℕ) (k₀ : Counters) (base n c v : ℕ) (x₀ : Four) where
  module _ (e : Concept) (q : e ≡ Or (run w₀ a count)) (x : Four) (k : Counters) (i : ℕ) (T : TurnedQueues P w₀ a count k₀ base n c v x₀ x k i) where
    -- the clause, at the end
    pub or_queues_end : (y : Four) → y.scratch ≡ x.scratch → count ≤ i → Queues c (λ env f b s. emit_step env P (λ h d u. emit_by env P f h d u) b v e s) k₀ base n x₀ y
    unfolding emit_step heads
    or_queues_end y ey h = record {
      waits = λ env f b s p lo E j t W. rw q (T.rest env f b s p y.scratch lo E j t W (λ s' hs l t' W'. rw (tab_end (λ z. get_or w₀ z 0) a i count h)
          (waiting_kept x.scratch y.scratch p s' (push env b hs s') (subst (Behind x.scratch) (sym ey) (behind_same x.scratch)) (push_leaves env b hs s') W')));
    }

    module _ (U : Turned P w₀ a count k₀ base n c v x₀ x k i) (ab : hands_at ≤ 6 * base) (S : SameSizes x₀ x) (m : ℕ) (Q : Pool) (y : Four) (r : Headed) (top : ℕ) (et : top ≡ base + n + i) (S2 : SameSizes x₀ y) (lt : i < count) (em : m ≡ get_or w₀ (a + i) 0) (less : m < c) (ep : Q ≡ P)
        (D : DidAtom (suc m) (λ env f s. head_atom_for env Q (λ h d u. emit_by env Q f h d u) m v s) k top x y r) (G : Queues (suc m) (λ env f b s. head_atom_for env Q (λ h d u. emit_by env Q f h d u) m v s) k top 0 x y) where
      asked_waits : (env : Env) (f : ℕ) (s' : Out) (p : List Limit) → c ≤ f → EnvHeld env k₀ x₀ → tables k x.clauses x.atoms x.deferrals ≡ show k₀ env.rooms s'
          → Waits x.scratch (p ++ s'.limits) → Waiting y.scratch p (head_atom_for env P (λ h d u. emit_by env P f h d u) m v s')
      asked_waits env f s' p lo E t W =
          subst (λ (o : Pool). Waiting y.scratch p (head_atom_for env o (λ h d u. emit_by env o f h d u) m v s')) ep
          (G.waits env f [] s' p (omega arith) (held_on env k₀ k x₀ x (base + n) U.alike (omega arith) U.frame S E) (hand_zero x.scratch top) (drawn_alike k₀ k env.rooms s' x.clauses x.atoms x.deferrals U.alike t) W)

      -- the Rust's None
      pub or_queues_absent : (k' : Counters) (z : Four) → z.scratch ≡ y.scratch → r ≡ Head.Absent k' → Queues c (λ env f b s. emit_step env P (λ h d u. emit_by env P f h d u) b v e s) k₀ base n x₀ z
      unfolding emit_step next
      or_queues_absent k' z ez er = record {
        waits = λ env f b s p lo E j t W. rw q (T.rest env f b s p z.scratch lo E j t W (λ s' hs l t' W'. rw (first_of_lem P w₀ a count k₀ base n c v x₀ e q x k i U ab S m Q y r top et S2 lt em less ep D, turn P w₀ a count k₀ base n c v x₀ e q x k i U ab S m Q y r top et S2 lt em less ep D env f b hs s')
            (waiting_absent env k₀ y.clauses y.atoms y.deferrals r y.scratch z.scratch p (next P w₀ a count k₀ base n c v x₀ e q x k i U ab S m Q y r top et S2 lt em less ep D env f b hs) (head_atom_for env P (λ h d u. emit_by env P f h d u) m v s') k' er
            (asked P w₀ a count k₀ base n c v x₀ e q x k i U ab S m Q y r top et S2 lt em less ep D env f s' lo E t') (asked_waits env f s' p lo E t' W')
            (λ s₁ W₁. waiting_kept y.scratch z.scratch p s₁ (defer env HeadOrDisjunct s₁) (subst (Behind y.scratch) (sym ez) (behind_same y.scratch)) (defer_leaves env HeadOrDisjunct s₁) W₁))));
      }

      pub or_queues_next : (k' : Counters) (z : Atom) (w' : List ℕ) → r ≡ Head.Made k' z → i < 256 → w' ≡ sets y.scratch (6 * top) (six z) → 6 * top + 6 ≤ limits_at
          → TurnedQueues P w₀ a count k₀ base n c v x₀ (four w' y.clauses y.atoms y.deferrals) k' (i + 1)
      unfolding with next
      or_queues_next k' z w' er few ew below =
          let B : Behind y.scratch w' = put_behind y.scratch w' (six z) (6 * top) ew below in
          record {
            rest = λ env f b s p w lo E j t W go. T.rest env f b s p w lo E j t W (λ s' hs l t' W'. rw (first_of_lem P w₀ a count k₀ base n c v x₀ e q x k i U ab S m Q y r top et S2 lt em less ep D, turn P w₀ a count k₀ base n c v x₀ e q x k i U ab S m Q y r top et S2 lt em less ep D env f b hs s')
                (waiting_made env k₀ y.clauses y.atoms y.deferrals r y.scratch w p (next P w₀ a count k₀ base n c v x₀ e q x k i U ab S m Q y r top et S2 lt em less ep D env f b hs) (head_atom_for env P (λ h d u. emit_by env P f h d u) m v s') k' z er
                (asked P w₀ a count k₀ base n c v x₀ e q x k i U ab S m Q y r top et S2 lt em less ep D env f s' lo E t') (asked_waits env f s' p lo E t' W')
                (λ s₁ t₁ W₁.
                let la = length-append hs (z ∷ []) in
                rw (lt-ltb (length hs) 256 (omega arith)) (go s₁ (hs ++ (z ∷ [])) (omega arith) t₁ (waits_kept y.scratch w' (p ++ s₁.limits) B W₁)))));
          }
