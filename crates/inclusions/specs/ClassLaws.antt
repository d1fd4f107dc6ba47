-- An inclusion of a class: its antecedent has one alternative, that class alone. Assumes nothing.
use Rattle.std.specs.Prelude.{◌≡◌, refl, Bool, List, [], ◌∷◌, ℕ, suc, ◌+◌, ◌*◌, ◌<◌, ◌≤◌, ltb, length, take}
use Rattle.std.proofs.Common.{ap, subst, ◌∙◌, arith}
use Rattle.std.proofs.Math.Bool.{true, false}
use Rattle.std.proofs.Math.Option.{some}
use Prim.{Unit, tt}
use Rattle.std.proofs.lemmas.List.Edits.{sets}
use Rattle.words.specs.Words.{words}
use Rattle.words.specs.Laws.{length_words}
use Rattle.ir.specs.Counts.{tick, visited, vars_restarted}
use Rattle.ir.specs.Records.{six}
use Rattle.ir.specs.Scratch.{hands_at}
use Rattle.ir.specs.declared.counters.Counters.{Counters}
use Rattle.ir.specs.Visit.{Begun, Full}
use Rattle.ir.specs.Answer.{Answer}
use Rattle.ir.specs.Answer.{Refused}
use Rattle.ir.specs.declared.atom.Atom.TheVariants.{Class}
use Rattle.rules.specs.Base.{Res, ok, refused, then, return, ◌>>◌, for_each}
use Rattle.rules.specs.Concept.{Atomic}
use Rattle.rules.specs.Pool.{Pool, at}
use Rattle.rules.specs.State.{Env, Rooms, Out, E, begun, visit, restarted, restart_vars}
use Rattle.rules.specs.Antecedents.{encode_step, encode_by}
use Rattle.rules.specs.Heads.{emit_by, emit_head}
use Rattle.rules.specs.Axioms.{Clausifier, back_out, in_out, emit_bodies, gci_with, clausify_gci}
use Rattle.pool.specs.Layout.{field, pool_of}
use Rattle.pool.specs.HeldLaws.{pool_at}
use Rattle.tables.specs.Drawn.{tables, show}
use Rattle.tables.specs.Good.{Alike}
use Rattle.hands.specs.Hands.{Four, four, Did, Queues}
use Rattle.hands.specs.HandLaws.{put_behind}
use Rattle.leaves.specs.ReadLaws.{concept_3}
use Rattle.leaves.specs.StepLaws.{alike_then, alike_tick, ticked, drawn_ticked}
use Rattle.heads.specs.Emits.{Emitting}
use Rattle.heads.specs.StepLaws.{begun_by, full_by, visit_is, visiting}
use Rattle.axioms.specs.RoleAxioms.{hand_at}
use Rattle.axioms.specs.RoleLaws.{alike_restart, drawn_restarted, good_restart, frame_one, hand_one, hand_did, hand_queues}
use Rattle.axioms.specs.HeadLaws.{emitting, emitted, emitted_queues}
use Rattle.axioms.specs.Wholes.{shown_whole, standing, Clausifying, Clausified, WaitingWhole, Queued}
use Rattle.axioms.specs.WholeLaws.{did_clausified}
use Rattle.axioms.specs.QueuedLaws.{queues_queued}

-- ---- the rule
-- class a is below sup
abbrev pub class_below : Env → ℕ → ℕ → Pool → E (Unit {0})
class_below env a sup pool = restart_vars >> (visit >> emit_head env pool (Class a 0 ∷ []) sup 0)

one_body : (z : Clausifier) (s : Out) (X : Res Out (Unit {0})) → back_out z X ≡ back_out (record { pool = z.pool; out = s }) (then X (λ _. return tt))
one_body z s (ok u t) = refl
one_body z s (refused e) = refl

pub class_is : (env : Env) (sub sup a : ℕ) (z : Clausifier) → at z.pool sub ≡ Atomic a → in_out (class_below env a sup) z ≡ clausify_gci env sub sup z
unfolding restart_vars visit encode_step encode_by for_each emit_bodies clausify_gci
class_is env sub sup a z e = rw e (go (ltb z.out.visits z.out.limit))
  where
    go : (b : Bool) → back_out z (then (begun (restarted z.out) b) (λ _. emit_head env z.pool (Class a 0 ∷ []) sup 0))
        ≡ then (back_out z (then (begun (restarted z.out) b) (λ _. return (some ((Class a 0 ∷ []) ∷ []))))) (λ o. gci_with env sub sup o)
    go true = one_body z (ticked (restarted z.out)) (emit_head env z.pool (Class a 0 ∷ []) sup 0 (ticked (restarted z.out)))
    go false = refl

-- ---- the visit
begins : (k : Counters) (rooms : Rooms) (s : Out) (c a d : List ℕ) (b : Bool) → ltb k.visits k.limit ≡ b → tables k c a d ≡ show k rooms s → visit s ≡ begun s b
unfolding visit
begins k rooms s c a d b h t = rw (visit_is k rooms s c a d t b h) refl

-- ---- the code
module _ (s : List ℕ) (k k1 : Counters) (sub sup : ℕ) (K : Clausifying s k) (held : sub < k.concepts) (kind : field (words s) sub 0 ≡ 3) (q1 : k1 ≡ vars_restarted k) where
  abbrev pub class : ℕ
  class = field (words s) sub 2

  is_class : at (pool_of (words s) k.concepts) sub ≡ Atomic class
  is_class = pool_at (words s) k.concepts sub held ∙ concept_3 (words s) sub kind

  pub class_clausified : (c a d : List ℕ) (y : Four) (r : Answer) → Did (λ _. 0) 0 (λ env f b u. class_below env class sup (pool_of (words s) k.concepts) u) k hand_at 0 (four (words s) c a d) y r
      → Clausified (λ env. clausify_gci env sub sup) k (four (words s) c a d) y r
  class_clausified c a d y r D =
      let C = did_clausified (λ env. class_below env class sup) k (four (words s) c a d) y r K.encoding.reading.ready.held D in
      record {
        equal = λ env u E t.
            C.equal env u E t
            ∙ ap (shown_whole (λ _. 0) k env.rooms) (class_is env sub sup class (standing k (four (words s) c a d) u) is_class);
        untouched = C.untouched;
        onward = C.onward;
      }

  pub class_queued : (c a d : List ℕ) (y : Four) → Queues 0 (λ env f b u. class_below env class sup (pool_of (words s) k.concepts) u) k hand_at 0 (four (words s) c a d) y
      → Queued (λ env. clausify_gci env sub sup) k (four (words s) c a d) y
  class_queued c a d y Q =
      let U = queues_queued (λ env. class_below env class sup) k (four (words s) c a d) y Q in
      record { waits = λ env u p E t W. subst (WaitingWhole y.scratch p) (class_is env sub sup class (standing k (four (words s) c a d) u) is_class) (U.waits env u p E t W) }

  pub class_full : (c a d : List ℕ) → visited k1 ≡ Full → Clausified (λ env. clausify_gci env sub sup) k (four (words s) c a d) (four (words s) c a d) (Refused 10)
  unfolding restart_vars
  class_full c a d ev =
      class_clausified c a d (four (words s) c a d) (Refused 10)
      (record {
        equal = λ env f b u lo E i t. rw (begins k1 env.rooms (restarted u) c a d false (full_by (ltb k1.visits k1.limit) k1 ev) (drawn_restarted k k1 env.rooms u c a d q1 t)) refl;
        frame = refl;
        good = tt;
        kept = tt;
      })

  -- the class in hand
  module _ (s' : List ℕ) (k2 : Counters) (x : ℕ) (ev : visited k1 ≡ Begun k2) (is : x ≡ class) (e : words s' ≡ sets (words s) (6 * 13500) (six (Class x 0))) where
    room : 6 * 13500 + 6 ≤ length (words s)
    room = omega (arith, length_words s, K.space)

    frame : take hands_at (words s') ≡ take hands_at (words s)
    frame = frame_one 13500 (words s) (words s') (Class x 0) e room

    ticks : (ltb k1.visits k1.limit ≡ true) × (k2 ≡ tick k1)
    ticks = begun_by (ltb k1.visits k1.limit) k1 k2 ev

    alike : Alike k k2
    alike = alike_then k k1 k2 (alike_restart k k1 q1) (alike_tick k1 k2 ticks.1)

    pub class_asked : length s' ≡ length s → sup < k.concepts → Emitting s' k2 13500 1 sup
    class_asked l h =
        (visiting s' k1 k2 13500 1 sup ev (emitting s s' k k1 1 sup K.encoding.reading l frame (alike_restart k k1 q1) (good_restart k k1 q1 K.good) (omega arith) h K.queue)).emitting

    pub class_did : (c a d : List ℕ) (y : Four) (r : Answer) → Did (λ _. 0) (suc sup) (λ env f b u. emit_by env (pool_of (words s') k2.concepts) f b sup 0 u) k2 13500 1 (four (words s') c a d) y r
        → Did (λ _. 0) 0 (λ env f b u. class_below env class sup (pool_of (words s) k.concepts) u) k hand_at 0 (four (words s) c a d) y r
    unfolding restart_vars
    class_did c a d y r D =
        let H =
        hand_did k k2 (λ u. ticked (restarted u)) 13500 1 (words s) (words s') c a d y (λ env b. emit_head env (pool_of (words s) k.concepts) b sup 0) (Class x 0 ∷ []) (λ env. Class class 0 ∷ []) (omega arith)
        alike (λ rooms u t. drawn_ticked k1 k2 rooms (restarted u) c a d ticks.1 (drawn_restarted k k1 rooms u c a d q1 t)) (λ env E. rw is refl) frame (hand_one 13500 (words s) (words s') (Class x 0) e room) r
        (emitted (words s) k k2 13500 1 sup 0 (four (words s') c a d) y r K.encoding.reading.ready.held frame alike D) in
        record {
          equal = λ env f b u lo E i t. rw (begins k1 env.rooms (restarted u) c a d true ticks.0 (drawn_restarted k k1 env.rooms u c a d q1 t)) (H.equal env f b u lo E i t);
          frame = H.frame;
          good = H.good;
          kept = H.kept;
        }

    pub class_queues : (c a d : List ℕ) (y : Four) → Queues (suc sup) (λ env f b u. emit_by env (pool_of (words s') k2.concepts) f b sup 0 u) k2 13500 1 (four (words s') c a d) y
        → Queues 0 (λ env f b u. class_below env class sup (pool_of (words s) k.concepts) u) k hand_at 0 (four (words s) c a d) y
    unfolding restart_vars
    class_queues c a d y Q =
        let H =
        hand_queues k k2 (λ u. ticked (restarted u)) 13500 1 (words s) (words s') c a d y (λ env b. emit_head env (pool_of (words s) k.concepts) b sup 0) (Class x 0 ∷ []) (λ env. Class class 0 ∷ []) (omega arith)
        alike (λ rooms u t. drawn_ticked k1 k2 rooms (restarted u) c a d ticks.1 (drawn_restarted k k1 rooms u c a d q1 t)) (λ env E. rw is refl) frame (hand_one 13500 (words s) (words s') (Class x 0) e room)
        (λ u. refl) (put_behind (words s) (words s') (six (Class x 0)) (6 * 13500) e (omega arith))
        (emitted_queues (words s) k k2 13500 1 sup 0 (four (words s') c a d) y K.encoding.reading.ready.held frame alike Q) in
        record { waits = λ env f b u p lo E i t W. rw (begins k1 env.rooms (restarted u) c a d true ticks.0 (drawn_restarted k k1 env.rooms u c a d q1 t)) (H.waits env f b u p lo E i t W) }
