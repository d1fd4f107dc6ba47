-- Domain and range: one role atom in hand, and a concept for its head. Assumes nothing.
use Rattle.std.specs.Prelude.{◌≡◌, refl, true, false, List, [], ◌∷◌, ℕ, suc, ◌+◌, ◌*◌, ◌<◌, ◌≤◌, length, take}
use Rattle.std.proofs.Common.{ap, arith}
use Rattle.std.proofs.lemmas.List.Edits.{sets}
use Rattle.words.specs.Words.{words}
use Rattle.words.specs.Laws.{length_words}
use Rattle.ir.specs.Counts.{fresh_var, vars_restarted}
use Rattle.ir.specs.Records.{six}
use Rattle.ir.specs.Scratch.{hands_at, limits_at, limits_words}
use Rattle.ir.specs.declared.counters.Counters.{Counters}
use Rattle.ir.specs.Answer.{Answer}
use Rattle.ir.specs.declared.role.Role.{Role}
use Rattle.ir.specs.declared.atom.Atom.TheVariants.{Role as RoleAtom}
use Rattle.rules.specs.State.{canon, restarted, restart_vars, fresh_var as new_var}
use Rattle.rules.specs.Heads.{emit_by, emit_head}
use Rattle.rules.specs.Axioms.{domain, range}
use Rattle.pool.specs.Layout.{pool_of}
use Rattle.tables.specs.Good.{Good}
use Rattle.hands.specs.Hands.{Four, four, Did, Queues}
use Rattle.hands.specs.HandLaws.{put_behind}
use Rattle.leaves.specs.Reading.{Reading}
use Rattle.leaves.specs.StepLaws.{vared}
use Rattle.heads.specs.Emits.{Emitting}
use Rattle.axioms.specs.RoleAxioms.{domain_or_range}
use Rattle.axioms.specs.RoleLaws.{alike_one, drawn_one, good_vars, frame_one, hand_one, CanonOf, hand_did, hand_queues}
use Rattle.axioms.specs.HeadLaws.{emitting, emitted, emitted_queues}

module _ (s s' : List ℕ) (k k1 k2 : Counters) (x : Role) (concept : ℕ) (R : Reading s k) (fit : 4 * (limits_at + limits_words) ≤ length s) (q1 : k1 ≡ vars_restarted k) (q2 : k2 ≡ fresh_var k1)
    (e : words s' ≡ sets (words s) (6 * 13500) (six (RoleAtom x 0 1))) where
  room : 6 * 13500 + 6 ≤ length (words s)
  room = omega (arith, length_words s, fit)

  frame : take hands_at (words s') ≡ take hands_at (words s)
  frame = frame_one 13500 (words s) (words s') (RoleAtom x 0 1) e room

  pub role_asked : Good k → length s' ≡ length s → concept < k.concepts → Emitting s' k2 13500 1 concept
  role_asked g l lt = emitting s s' k k2 1 concept R l frame (alike_one k k1 k2 q1 q2) (good_vars k k1 k2 (fresh_var k2) q1 q2 refl g).0 (omega arith) lt fit

  module _ (r : Role) (i : CanonOf (words s) x r) (c a d : List ℕ) (y : Four) where
    role_did : (v : ℕ) (z : Answer) → Did (λ _. 0) (suc concept) (λ env f b u. emit_by env (pool_of (words s') k2.concepts) f b concept v u) k2 13500 1 (four (words s') c a d) y z
        → Did (λ _. 0) 0 (λ env f b u. emit_head env (pool_of (words s) k.concepts) (RoleAtom (canon env r) 0 1 ∷ []) concept v (vared (restarted u))) k 13500 0 (four (words s) c a d) y z
    role_did v z D =
        hand_did k k2 (λ u. vared (restarted u)) 13500 1 (words s) (words s') c a d y (λ env b. emit_head env (pool_of (words s) k.concepts) b concept v) (RoleAtom x 0 1 ∷ []) (λ env. RoleAtom (canon env r) 0 1 ∷ []) (omega arith)
        (alike_one k k1 k2 q1 q2) (drawn_one k k1 k2 c a d q1 q2) (λ env E. ap (λ (o : Role). RoleAtom o 0 1 ∷ []) (i env k E)) frame (hand_one 13500 (words s) (words s') (RoleAtom x 0 1) e room) z
        (emitted (words s) k k2 13500 1 concept v (four (words s') c a d) y z R.ready.held frame (alike_one k k1 k2 q1 q2) D)

    pub domain_did : (z : Answer) → Did (λ _. 0) (suc concept) (λ env f b u. emit_by env (pool_of (words s') k2.concepts) f b concept 0 u) k2 13500 1 (four (words s') c a d) y z
        → Did (λ _. 0) 0 (λ env f b u. domain_or_range env r concept false (pool_of (words s) k.concepts) u) k 13500 0 (four (words s) c a d) y z
    unfolding domain restart_vars new_var
    domain_did z D = role_did 0 z D

    pub range_did : (z : Answer) → Did (λ _. 0) (suc concept) (λ env f b u. emit_by env (pool_of (words s') k2.concepts) f b concept 1 u) k2 13500 1 (four (words s') c a d) y z
        → Did (λ _. 0) 0 (λ env f b u. domain_or_range env r concept true (pool_of (words s) k.concepts) u) k 13500 0 (four (words s) c a d) y z
    unfolding range restart_vars new_var
    range_did z D = role_did 1 z D

    -- the limits that wait
    role_queues : (v : ℕ) → Queues (suc concept) (λ env f b u. emit_by env (pool_of (words s') k2.concepts) f b concept v u) k2 13500 1 (four (words s') c a d) y
        → Queues 0 (λ env f b u. emit_head env (pool_of (words s) k.concepts) (RoleAtom (canon env r) 0 1 ∷ []) concept v (vared (restarted u))) k 13500 0 (four (words s) c a d) y
    role_queues v Q =
        hand_queues k k2 (λ u. vared (restarted u)) 13500 1 (words s) (words s') c a d y (λ env b. emit_head env (pool_of (words s) k.concepts) b concept v) (RoleAtom x 0 1 ∷ []) (λ env. RoleAtom (canon env r) 0 1 ∷ []) (omega arith)
        (alike_one k k1 k2 q1 q2) (drawn_one k k1 k2 c a d q1 q2) (λ env E. ap (λ (o : Role). RoleAtom o 0 1 ∷ []) (i env k E)) frame (hand_one 13500 (words s) (words s') (RoleAtom x 0 1) e room)
        (λ u. refl) (put_behind (words s) (words s') (six (RoleAtom x 0 1)) (6 * 13500) e (omega arith))
        (emitted_queues (words s) k k2 13500 1 concept v (four (words s') c a d) y R.ready.held frame (alike_one k k1 k2 q1 q2) Q)

    pub domain_queues : Queues (suc concept) (λ env f b u. emit_by env (pool_of (words s') k2.concepts) f b concept 0 u) k2 13500 1 (four (words s') c a d) y
        → Queues 0 (λ env f b u. domain_or_range env r concept false (pool_of (words s) k.concepts) u) k 13500 0 (four (words s) c a d) y
    unfolding domain restart_vars new_var
    domain_queues Q = role_queues 0 Q

    pub range_queues : Queues (suc concept) (λ env f b u. emit_by env (pool_of (words s') k2.concepts) f b concept 1 u) k2 13500 1 (four (words s') c a d) y
        → Queues 0 (λ env f b u. domain_or_range env r concept true (pool_of (words s) k.concepts) u) k 13500 0 (four (words s) c a d) y
    unfolding range restart_vars new_var
    range_queues Q = role_queues 1 Q
