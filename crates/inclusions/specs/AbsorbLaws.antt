-- What the conjuncts of a hard antecedent give: the heads that are made of them, and what follows. Assumes nothing.
use Rattle.std.specs.Prelude.{◌≡◌, refl, List, [], ◌∷◌, ◌++◌, ℕ, suc, ◌+◌, ◌<◌, get_or}
use Rattle.std.proofs.Common.{sym, ◌∙◌, arith}
use Rattle.std.proofs.Math.Path.{ap, subst}
use Rattle.std.proofs.Math.Option.{Option}
use Prim.{tt}
use Rattle.words.specs.Words.{words}
use Rattle.ir.specs.Counts.{vars_restarted}
use Rattle.ir.specs.declared.counters.Counters.{Counters}
use Rattle.ir.specs.Answer.{Answer}
use Rattle.ir.specs.Answer as Answers
use Rattle.ir.specs.Encoded.{Encoded}
use Rattle.ir.specs.Encoded.{Found, Unsupported, Refused}
use Rattle.ir.specs.declared.deferral.Deferral.TheVariants.{Antecedent}
use Rattle.rules.specs.Base.{Res, M, then, ◌>>=◌, each}
use Rattle.rules.specs.Pool.{mk_or}
use Rattle.rules.specs.PoolLaws.{below_more}
use Rattle.rules.specs.Invariants.{Each}
use Rattle.rules.specs.Normalize.{N, nnf_complement}
use Rattle.rules.specs.State.{Env, Out, restarted, restart_vars, defer}
use Rattle.rules.specs.Antecedents.{Alternatives}
use Rattle.rules.specs.Heads.{emit_by, emit_head}
use Rattle.rules.specs.Axioms.{Clausifier, in_nnf, in_out, emit_bodies, bodies_or_defer, absorb_parts}
use Rattle.pool.specs.Layout.{run, pool_of}
use Rattle.pool.specs.Held.{Held}
use Rattle.pool.specs.Tabs.{tab_same}
use Rattle.pool.specs.HeldLaws.{used_within}
use Rattle.tables.specs.Drawn.{tables, show, shown, after, Lent}
use Rattle.tables.specs.Good.{Good, GoodAnswer, KeptAnswer}
use Rattle.waiting.specs.LimitLaws.{behind_same}
use Rattle.hands.specs.Hands.{Four, four, Did, Waiting, Queues}
use Rattle.rules.proofs.WholeLaws.{defer_leaves}
use Rattle.hands.specs.QueueLaws.{waiting_kept}
use Rattle.leaves.specs.StepLaws.{shown_alike, kept_then, env_alike, hand_zero}
use Rattle.antecedents.specs.Table.{Outside}
use Rattle.heads.specs.Emits.{Emitting}
use Rattle.heads.specs.FrameLaws.{reading_alike}
use Rattle.axioms.specs.RoleAxioms.{hand_at}
use Rattle.axioms.specs.RoleLaws.{alike_restart, drawn_restarted, good_restart}
use Rattle.axioms.specs.Bodies.{Bodied, BodiedWaits}
use Rattle.axioms.specs.Wholes.{Clausifying, Clausified, Queued}
use Rattle.axioms.specs.WholeLaws.{did_clausified}
use Rattle.inclusions.specs.Parted.{soft_at, head_alone, head_over, soft_and_of, Normalised}
use Rattle.inclusions.specs.Absorbs.{always_head, gives_head, absorb_none, absorb_some}
use Rattle.axioms.specs.OnwardLaws.{untouched_kept}
use Rattle.axioms.specs.QueuedLaws.{waits_same, queues_queued}
use Rattle.inclusions.specs.NormalLaws.{nnf_then, nnf_queued, nnf_stop, nnf_pool}
use Rattle.inclusions.specs.GrowLaws.{grew_normal, outside_behind, filled_pool, filled_untouched}
use Rattle.inclusions.specs.EncodeLaws.{EncodedBy, found_alike, none_alike, found_at, none_at, refused_at}

-- ---- the rules' own
pub none_is : (env : Env) (sub sup : ℕ) (hard : List ℕ) (z : Clausifier) → absorb_none env sub sup z ≡ absorb_parts env sub sup [] hard z
unfolding absorb_parts
none_is env sub sup hard z = nnf_pool (nnf_complement sub) (λ n. mk_or (n ∷ sup ∷ [])) (λ head. in_out (always_head env head)) z

pub some_is : (env : Env) (sub sup b : ℕ) (soft hard : List ℕ) (z : Clausifier) → absorb_some env sup (b ∷ soft) hard z ≡ absorb_parts env sub sup (b ∷ soft) hard z
unfolding absorb_parts
some_is env sub sup b [] hard z = nnf_pool (each nnf_complement hard) (λ l. mk_or (l ++ (sup ∷ []))) (λ head. in_nnf (soft_and_of (b ∷ [])) >>= (λ g. in_out (gives_head env g head))) z
some_is env sub sup b (e ∷ soft) hard z = nnf_pool (each nnf_complement hard) (λ l. mk_or (l ++ (sup ∷ []))) (λ head. in_nnf (soft_and_of (b ∷ e ∷ soft)) >>= (λ g. in_out (gives_head env g head))) z

-- ---- the head holds of everything
pub always_did : (k k1 : Counters) (head : ℕ) (w c a d : List ℕ) (y : Four) (r : Answer) → k1 ≡ vars_restarted k
    → Did (λ _. 0) (suc head) (λ env f b s. emit_by env (pool_of w k1.concepts) f b head 0 s) k1 hand_at 0 (four w c a d) y r
    → Did (λ _. 0) 0 (λ env f b s. always_head env head (pool_of w k.concepts) s) k hand_at 0 (four w c a d) y r
unfolding restart_vars
always_did k k1 head w c a d y r q D =
    let A = alike_restart k k1 q in
    record {
      equal = λ env f b s lo E i t.
          D.equal env (suc head) [] (restarted s) (omega arith) (record { read = env_alike env k k1 w A E.read; lent = E.lent }) (hand_zero w hand_at) (drawn_restarted k k1 env.rooms s c a d q t)
          ∙ shown_alike (λ _. 0) k k1 env.rooms (emit_by env (pool_of w k1.concepts) (suc head) [] head 0 (restarted s)) A
          ∙ ap (λ (n : ℕ). shown (λ _. 0) k env.rooms (emit_by env (pool_of w n) (suc head) [] head 0 (restarted s))) A.concepts;
      frame = D.frame;
      good = D.good;
      kept = kept_then k k1 r A D.kept;
    }

pub always_queues : (k k1 : Counters) (head : ℕ) (w c a d : List ℕ) (y : Four) → k1 ≡ vars_restarted k
    → Queues (suc head) (λ env f b s. emit_by env (pool_of w k1.concepts) f b head 0 s) k1 hand_at 0 (four w c a d) y
    → Queues 0 (λ env f b s. always_head env head (pool_of w k.concepts) s) k hand_at 0 (four w c a d) y
unfolding restart_vars
always_queues k k1 head w c a d y q U =
    let A = alike_restart k k1 q in
    record {
      waits = λ env f b s p lo E i t W.
          subst (λ (n : ℕ). Waiting y.scratch p (emit_by env (pool_of w n) (suc head) [] head 0 (restarted s))) A.concepts
          (U.waits env (suc head) [] (restarted s) p (omega arith) (record { read = env_alike env k k1 w A E.read; lent = E.lent }) (hand_zero w hand_at) (drawn_restarted k k1 env.rooms s c a d q t) W);
    }

-- with no body in hand there is room for each concept
pub emitting_none : (s : List ℕ) (k k1 : Counters) (head : ℕ) → Clausifying s k → k1 ≡ vars_restarted k → head < k.concepts → Emitting s k1 hand_at 0 head
emitting_none s k k1 head K q h =
    let A = alike_restart k k1 q in
    let R = K.encoding.reading in
    let u = used_within (words s) k.concepts k.members R.ready.held head h in
    record {
      reading = reading_alike s k k1 A R;
      good = good_restart k k1 q K.good;
      held = omega (arith, h, A.concepts);
      room = record {
        above = omega arith;
        short = omega arith;
        fits = omega (arith, u, h, K.space, R.ready.held.few, R.ready.held.space);
        below = omega (arith, u, h, R.ready.held.few, R.ready.held.space);
        queue = K.queue;
      };
    }

-- ---- a concept gives the head
module _ (k k1 : Counters) (g head : ℕ) (w c a d : List ℕ) (r : Encoded) (q1 : k1 ≡ vars_restarted k) (g1 : Good k1)
    (C : EncodedBy w k1 g r) where
  pub gives_found : (n : Counters) (count j : ℕ) (y : Four) (z : Answer) → r ≡ Found n count j → Bodied (λ env b. emit_head env (pool_of w n.concepts) b head 0) n g 1 count (four w c a d) y z
      → Did (λ _. 0) 0 (λ env f b s. gives_head env g head (pool_of w k.concepts) s) k hand_at 0 (four w c a d) y z
  unfolding restart_vars emit_bodies
  gives_found n count j y z q B =
      let A = found_alike k k1 g w c a d r q1 g1 C n count j q in
      record {
        equal = λ env f b s lo E i t.
            let F = found_at k k1 g w c a d r q1 g1 C env s E t n count j q in
            B.equal env (suc g) (restarted s) F.alternatives F.end (record { read = env_alike env k n w A E.read; lent = E.lent }) F.encodes F.drawn
            ∙ shown_alike (λ _. 0) k n env.rooms (emit_bodies env (pool_of w n.concepts) F.alternatives head F.end) A
            ∙ ap (λ (m : ℕ). shown (λ _. 0) k env.rooms (emit_bodies env (pool_of w m) F.alternatives head F.end)) A.concepts
            ∙ ap (λ (X : Res Out (Option Alternatives)). shown (λ _. 0) k env.rooms (then X (λ o. bodies_or_defer env (pool_of w k.concepts) head o))) (sym F.is);
        frame = B.frame;
        good = B.good;
        kept = kept_then k n z A B.kept;
      }

  pub gives_queues : (n : Counters) (count j : ℕ) (y : Four) → r ≡ Found n count j → BodiedWaits (λ env b. emit_head env (pool_of w n.concepts) b head 0) n g 1 count (four w c a d) y
      → Queues 0 (λ env f b s. gives_head env g head (pool_of w k.concepts) s) k hand_at 0 (four w c a d) y
  unfolding restart_vars emit_bodies
  gives_queues n count j y q B =
      let A = found_alike k k1 g w c a d r q1 g1 C n count j q in
      record {
        waits = λ env f b s p lo E i t W.
            let F = found_at k k1 g w c a d r q1 g1 C env s E t n count j q in
            subst (λ (X : Res Out (Option Alternatives)). Waiting y.scratch p (then X (λ o. bodies_or_defer env (pool_of w k.concepts) head o))) (sym F.is)
            (subst (λ (m : ℕ). Waiting y.scratch p (emit_bodies env (pool_of w m) F.alternatives head F.end)) A.concepts
            (B.waits env (suc g) (restarted s) F.alternatives F.end p (record { read = env_alike env k n w A E.read; lent = E.lent }) F.encodes F.drawn (waits_same w p s F.end F.limits W)));
      }

  pub gives_none : (n : Counters) (d' : List ℕ) (z : Answer) → r ≡ Unsupported n → GoodAnswer z → KeptAnswer n z
      → ((env : Env) (s : Out) (c a : List ℕ) → Lent env.rooms c a d → tables n c a d ≡ show n env.rooms s → after z c a d' ≡ shown (λ _. 0) n env.rooms (defer env Antecedent s))
      → Did (λ _. 0) 0 (λ env f b s. gives_head env g head (pool_of w k.concepts) s) k hand_at 0 (four w c a d) (four w c a d') z
  unfolding restart_vars
  gives_none n d' z q h K P =
      let A = none_alike k k1 g w c a d r q1 g1 C n q in
      record {
        equal = λ env f b s lo E i t.
            let F = none_at k k1 g w c a d r q1 g1 C env s E t n q in
            P env F.end c a E.lent F.drawn
            ∙ shown_alike (λ _. 0) k n env.rooms (defer env Antecedent F.end) A
            ∙ ap (λ (X : Res Out (Option Alternatives)). shown (λ _. 0) k env.rooms (then X (λ o. bodies_or_defer env (pool_of w k.concepts) head o))) (sym F.is);
        frame = refl;
        good = h;
        kept = kept_then k n z A K;
      }

  pub none_queues : (n : Counters) (d' : List ℕ) → r ≡ Unsupported n → Queues 0 (λ env f b s. gives_head env g head (pool_of w k.concepts) s) k hand_at 0 (four w c a d) (four w c a d')
  unfolding restart_vars
  none_queues n d' q = record {
    waits = λ env f b s p lo E i t W.
        let F = none_at k k1 g w c a d r q1 g1 C env s E t n q in
        subst (λ (X : Res Out (Option Alternatives)). Waiting w p (then X (λ o. bodies_or_defer env (pool_of w k.concepts) head o))) (sym F.is)
        (waiting_kept w w p F.end (defer env Antecedent F.end) (behind_same w) (defer_leaves env Antecedent F.end) (waits_same w p s F.end F.limits W));
  }

  pub gives_refused : (e : ℕ) → r ≡ Refused e → Did (λ _. 0) 0 (λ env f b s. gives_head env g head (pool_of w k.concepts) s) k hand_at 0 (four w c a d) (four w c a d) (Answers.Refused e)
  unfolding restart_vars
  gives_refused e q = record {
    equal = λ env f b s lo E i t. ap (λ (X : Res Out (Option Alternatives)). shown (λ _. 0) k env.rooms (then X (λ o. bodies_or_defer env (pool_of w k.concepts) head o))) (sym (refused_at k k1 g w c a d r q1 g1 C env s E t e q));
    frame = refl;
    good = tt;
    kept = tt;
  }

-- ---- the heads, and what follows them
-- the soft conjuncts stand as they were
pub soft_same : (rule : N ℕ) (k : Counters) (s s1 : List ℕ) (r : Answer) (soft : ℕ) → Normalised rule k s s1 r → run (words s1) soft_at soft ≡ run (words s) soft_at soft
soft_same rule k s s1 r soft M = tab_same (λ j. get_or (words s1) j 0) (λ j. get_or (words s) j 0) soft_at soft_at soft (λ j h. M.behind (soft_at + j) (omega arith))

pub soft_inside : (rule : N ℕ) (k l : Counters) (i : ℕ) (s s1 : List ℕ) (soft : ℕ) → Normalised rule k s s1 (Answers.Done l i) → Each (λ d. d < k.concepts) (run (words s) soft_at soft) → Each (λ d. d < l.concepts) (run (words s1) soft_at soft)
soft_inside rule k l i s s1 soft M h =
    let O = (grew_normal rule k l i s s1 M).onward in
    rw (soft_same rule k s s1 (Answers.Done l i) soft M) (below_more O.concepts (run (words s) soft_at soft) h)

pub none_done : (sub sup head : ℕ) (k l : Counters) (s s1 s2 c a d : List ℕ) (y : Four) (r : Answer) → Normalised (head_alone sub sup) k s s1 (Answers.Done l head) → Outside (words s1) (words s2) → Held (words s2) l.concepts l.members
    → Did (λ _. 0) 0 (λ env f b o. always_head env head (pool_of (words s2) l.concepts) o) l hand_at 0 (four (words s2) c a d) y r
    → Clausified (λ env. absorb_none env sub sup) k (four (words s) c a d) y r
none_done sub sup head k l s s1 s2 c a d y r M O H D =
    let G = grew_normal (head_alone sub sup) k l head s s1 M in
    nnf_then (head_alone sub sup) k s s1 c a d (λ env j. in_out (always_head env j)) l head s2 y r M (filled_pool s s1 s2 k l G O) (filled_untouched s s1 s2 k l G O)
    (did_clausified (λ env. always_head env head) l (four (words s2) c a d) y r H D)

pub none_queued : (sub sup head : ℕ) (k l : Counters) (s s1 s2 c a d : List ℕ) (y : Four) → Normalised (head_alone sub sup) k s s1 (Answers.Done l head) → Outside (words s1) (words s2)
    → Queues 0 (λ env f b o. always_head env head (pool_of (words s2) l.concepts) o) l hand_at 0 (four (words s2) c a d) y
    → Queued (λ env. absorb_none env sub sup) k (four (words s) c a d) y
none_queued sub sup head k l s s1 s2 c a d y M O U =
    let G = grew_normal (head_alone sub sup) k l head s s1 M in
    nnf_queued (head_alone sub sup) k s s1 c a d (λ env j. in_out (always_head env j)) l head s2 y M (filled_pool s s1 s2 k l G O) (filled_untouched s s1 s2 k l G O) (outside_behind (words s1) (words s2) O)
    (queues_queued (λ env. always_head env head) l (four (words s2) c a d) y U)

module _ (sup head soft : ℕ) (hard : List ℕ) (k l : Counters) (s s1 s2 c a d : List ℕ) (M : Normalised (head_over hard sup) k s s1 (Answers.Done l head)) where
  some_over : (y : Four) (r : Answer) → Clausified (λ env. in_nnf (soft_and_of (run (words s1) soft_at soft)) >>= (λ g. in_out (gives_head env g head))) l (four (words s1) c a d) y r
      → Clausified (λ env. absorb_some env sup (run (words s) soft_at soft) hard) k (four (words s) c a d) y r
  some_over y r K =
      nnf_then (head_over hard sup) k s s1 c a d (λ env j. in_nnf (soft_and_of (run (words s) soft_at soft)) >>= (λ g. in_out (gives_head env g j))) l head s1 y r M refl (untouched_kept (words s) (words s1) M.before)
      (subst (λ (b : List ℕ). Clausified (λ env. in_nnf (soft_and_of b) >>= (λ g. in_out (gives_head env g head))) l (four (words s1) c a d) y r) (soft_same (head_over hard sup) k s s1 (Answers.Done l head) soft M) K)

  pub some_done : (m : Counters) (g : ℕ) (s3 : List ℕ) (y : Four) (r : Answer) → Normalised (soft_and_of (run (words s1) soft_at soft)) l s1 s2 (Answers.Done m g) → Outside (words s2) (words s3) → Held (words s3) m.concepts m.members
      → Did (λ _. 0) 0 (λ env f b o. gives_head env g head (pool_of (words s3) m.concepts) o) m hand_at 0 (four (words s3) c a d) y r
      → Clausified (λ env. absorb_some env sup (run (words s) soft_at soft) hard) k (four (words s) c a d) y r
  some_done m g s3 y r M2 O H D =
      let G = grew_normal (soft_and_of (run (words s1) soft_at soft)) l m g s1 s2 M2 in
      some_over y r
      (nnf_then (soft_and_of (run (words s1) soft_at soft)) l s1 s2 c a d (λ env j. in_out (gives_head env j head)) m g s3 y r M2 (filled_pool s1 s2 s3 l m G O) (filled_untouched s1 s2 s3 l m G O)
      (did_clausified (λ env. gives_head env g head) m (four (words s3) c a d) y r H D))

  pub some_queued : (m : Counters) (g : ℕ) (s3 : List ℕ) (y : Four) → Normalised (soft_and_of (run (words s1) soft_at soft)) l s1 s2 (Answers.Done m g) → Outside (words s2) (words s3)
      → Queues 0 (λ env f b o. gives_head env g head (pool_of (words s3) m.concepts) o) m hand_at 0 (four (words s3) c a d) y
      → Queued (λ env. absorb_some env sup (run (words s) soft_at soft) hard) k (four (words s) c a d) y
  some_queued m g s3 y M2 O U =
      let G = grew_normal (soft_and_of (run (words s1) soft_at soft)) l m g s1 s2 M2 in
      let Q : Queued (λ env. in_nnf (soft_and_of (run (words s1) soft_at soft)) >>= (λ j. in_out (gives_head env j head))) l (four (words s1) c a d) y =
      nnf_queued (soft_and_of (run (words s1) soft_at soft)) l s1 s2 c a d (λ env j. in_out (gives_head env j head)) m g s3 y M2 (filled_pool s1 s2 s3 l m G O) (filled_untouched s1 s2 s3 l m G O) (outside_behind (words s2) (words s3) O)
      (queues_queued (λ env. gives_head env g head) m (four (words s3) c a d) y U) in
      nnf_queued (head_over hard sup) k s s1 c a d (λ env j. in_nnf (soft_and_of (run (words s) soft_at soft)) >>= (λ g. in_out (gives_head env g j))) l head s1 y M refl (untouched_kept (words s) (words s1) M.before) (behind_same (words s1))
      (subst (λ (b : List ℕ). Queued (λ env. in_nnf (soft_and_of b) >>= (λ g. in_out (gives_head env g head))) l (four (words s1) c a d) y) (soft_same (head_over hard sup) k s s1 (Answers.Done l head) soft M) Q)

  pub some_stop : (e : ℕ) → Normalised (soft_and_of (run (words s1) soft_at soft)) l s1 s2 (Answers.Refused e)
      → Clausified (λ env. absorb_some env sup (run (words s) soft_at soft) hard) k (four (words s) c a d) (four (words s2) c a d) (Answers.Refused e)
  some_stop e M2 = some_over (four (words s2) c a d) (Answers.Refused e) (nnf_stop (soft_and_of (run (words s1) soft_at soft)) l s1 s2 c a d (λ env j. in_out (gives_head env j head)) e M2)
