-- A call of emit_head from the first atom in hand on, over the pool that stood in scratch before. Assumes nothing.
use Rattle.std.specs.Prelude.{◌≡◌, List, ℕ, suc, ◌+◌, ◌*◌, ◌<◌, ◌≤◌, length, take}
use Rattle.std.proofs.Common.{ap, subst, ◌∙◌, arith}
use Prim.{Unit}
use Rattle.words.specs.Words.{words}
use Rattle.ir.specs.Scratch.{hands_at, limits_at, limits_words}
use Rattle.ir.specs.declared.counters.Counters.{Counters}
use Rattle.ir.specs.Answer.{Answer}
use Rattle.rules.specs.Pool.{Pool}
use Rattle.rules.specs.Heads.{emit_by, emit_head}
use Rattle.pool.specs.Layout.{pool_of}
use Rattle.pool.specs.Held.{Held}
use Rattle.pool.specs.HeldLaws.{used_within}
use Rattle.tables.specs.Drawn.{shown}
use Rattle.tables.specs.Good.{Good, Alike}
use Rattle.hands.specs.Hands.{Four, Did, Waiting, Queues}
use Rattle.leaves.specs.Reading.{Reading}
use Rattle.heads.specs.Emits.{Emitting}
use Rattle.heads.specs.FrameLaws.{reading_alike, reading_kept, room_on}
use Rattle.axioms.specs.BodyLaws.{pool_still}

-- what it asks: no concept needs more room than there is
pub emitting : (s s' : List ℕ) (k m : Counters) (n c : ℕ) → Reading s k → length s' ≡ length s → take hands_at (words s') ≡ take hands_at (words s) → Alike k m → Good m → n ≤ 256 → c < k.concepts → 4 * (limits_at + limits_words) ≤ length s
    → Emitting s' m 13500 n c
emitting s s' k m n c R l e A g h lt fit =
    let u = used_within (words s) k.concepts k.members R.ready.held c lt in
    let o = room_on s s' k 13500 R (omega arith) e c lt in
    record {
      reading = reading_alike s' k m A (reading_kept s s' k 13500 R (omega arith) e l);
      good = g;
      held = rw A.concepts lt;
      room = record {
        above = omega arith;
        short = h;
        fits = omega (arith, u, o, l, fit, lt, h, R.ready.held.few, R.ready.held.space);
        below = omega (arith, u, o, lt, h, R.ready.held.few, R.ready.held.space);
        queue = omega (arith, l, fit);
      };
    }

-- what it did, at its own bound
pub emitted : (w : List ℕ) (k m : Counters) (base n c v : ℕ) (x y : Four) (r : Answer) → Held w k.concepts k.members → take hands_at x.scratch ≡ take hands_at w → Alike k m
    → Did (λ _. 0) (suc c) (λ env f b s. emit_by env (pool_of x.scratch m.concepts) f b c v s) m base n x y r
    → Did (λ _. 0) 0 (λ env f b s. emit_head env (pool_of w k.concepts) b c v s) m base n x y r
emitted w k m base n c v x y r H e A D = record {
  equal = λ env f b s lo E i t.
      D.equal env (suc c) b s (omega arith) E i t ∙ ap (λ (p : Pool). shown (λ (_ : Unit {0}). 0) m env.rooms (emit_by env p (suc c) b c v s)) (pool_still w x.scratch k m e A H);
  frame = D.frame;
  good = D.good;
  kept = D.kept;
}

-- and of the limits that wait
pub emitted_queues : (w : List ℕ) (k m : Counters) (base n c v : ℕ) (x y : Four) → Held w k.concepts k.members → take hands_at x.scratch ≡ take hands_at w → Alike k m
    → Queues (suc c) (λ env f b s. emit_by env (pool_of x.scratch m.concepts) f b c v s) m base n x y
    → Queues 0 (λ env f b s. emit_head env (pool_of w k.concepts) b c v s) m base n x y
emitted_queues w k m base n c v x y H e A U = record {
  waits = λ env f b s p lo E i t W.
      subst (λ (o : Pool). Waiting y.scratch p (emit_by env o (suc c) b c v s)) (pool_still w x.scratch k m e A H) (U.waits env (suc c) b s p (omega arith) E i t W);
}
