use mathlib.Core.Path.{◌≡◌, refl, sym, ap, subst, ◌∙◌}
use Prim.Native.Nat.{◌+◌, ◌*◌, ◌≤◌, ◌<◌}
use mathlib.Core.Bool.{◌&&◌}
use mathlib.Core.Option.{none, some}
use Prim.{tt}
use native.Mathlib.Omega.{arith}
use lib.ListN.{length}
use Rattle.std.specs.Prelude.{Option, Ok}
use Rattle.std.proofs.lemmas.Result.{err_from_is_err_and}
use Rattle.words.specs.Words.{words}
use Rattle.words.specs.Laws.{length_words, words_long}
use Rattle.ir.specs.Headed.{headed}
use Rattle.ir.specs.Headed as Head
use Rattle.ir.specs.Roles.{role_of}
use Rattle.ir.specs.Records.{six}
use Rattle.ir.specs.Scratch.{hands_at}
use Rattle.ir.specs.Options.{equal_names}
use Rattle.ir.specs.declared.atom.Atom.{Atom}
use Rattle.ir.specs.declared.atom.Atom.TheVariants as AtomIs
use Rattle.rules.specs.Concept.{All, And, Or}
use Rattle.rules.specs.Pool.{at}
use Rattle.rules.specs.State.{Env, class_id_of}
use Rattle.pool.specs.Layout.{members_at, field, concept_at, pool_of, plain, run}
use Rattle.pool.specs.HeldLaws.{pool_at}
use Rattle.hands.specs.Hands.{EnvIn}
use Rattle.hands.specs.HandLaws.{put_frame, sized_two}
use Rattle.hands.specs.QueueLaws.{queues_no, both_no}
use Rattle.leaves.specs.declared.form.Form.TheVariants as FormIs
use Rattle.leaves.specs.Classes.{Restricts, is_max, anew}
use Rattle.leaves.specs.Leaves.{emit_named, filler_atom}
use Rattle.leaves.specs.Reading.{form_of}
use Rattle.leaves.specs.ReadLaws.{concept_7, concept_8, concept_10, child_10}
use Rattle.leaves.specs.StepLaws.{alike_same, alike_var, alike_class, good_var, good_class, env_alike}
use Rattle.leaves.specs.NamedLaws.{did_after, did_after_no, made_after, made_after_no}
use Rattle.heads.specs.FrameLaws.{waited_below, reading_alike, reading_kept, pool_on, concept_on, pool_alike, fall, run_of_lem, member, emitting_on, filler_is, filler_below, same_then, class_fits}
use Rattle.heads.specs.StepLaws.{visiting, head_step, head_full, named_restricts, leaf_step, named_step, filler_step, under_full, under_go, name_step_lem, name_is_new, name_is_class, name_full, name_go, atom_step, atom_full, atom_ready, atom_absent, atom_negated, atom_whole, atom_filler}
use Rattle.heads.specs.QueueLaws.{head_queues, leaf_queues, named_queues, under_queues, name_queues, new_queues, class_queues, fresh_queues, filler_queues, atom_queues, atom_no, ready_queues, absent_queues, negated_queues, whole_queues, restricted_queues}
use Rattle.heads.specs.QueueLoops.{turn_queues_end, turn_queues_next, or_queues_end, or_queues_absent, or_queues_next}
use Rattle.heads.specs.LoopLaws.{sizes_of, turn_end, turn_stop, turn_next, or_end, or_stop, or_long, or_absent, or_next}
use Rattle.heads.proofs.emit.+atomic_name_of_emit_all_emit_head_emit_or_emit_under_head_atom_for_name_filler_name_new.Goals as goal

pub atomic_name_of-returns-in_err-visit-clause-did : goal.atomic_name_of-returns-in_err-visit-clause-did
atomic_name_of-returns-in_err-visit-clause-did t c =
    let A = c.args in
    let k = A.lent.now.counters in
    let p = err_from_is_err_and c.from_residual.result c.from_residual.ensures.1 in
    let F = name_full k A.base A.c _ (pool_of (words A.scratch.now) k.concepts) (sym c.in_err-visit.ensures.self_after) in rw (p.1, p.2, c.in_err-visit.ensures.spent) (F, tt, queues_no _ _ _ _ _ _ _ (λ q. q) _ F)

pub atomic_name_of-returns-in-Some-clause-did : goal.atomic_name_of-returns-in-Some-clause-did
atomic_name_of-returns-in-Some-clause-did t c =
    let A = c.args in
    let k = A.lent.now.counters in
    let l = c.visit.new.self in
    let H = visiting A.scratch.now k l A.base 1 A.c (sym c.in_ok-visit.ensures.self_after) c.requires in
    let M = H.emitting in
    let w = words A.scratch.now in
    let e = concept_at w A.c in
    let P = pool_of w k.concepts in
    let Q = pool_of w l.concepts in
    let is : (env : Env) → EnvIn env l w → some c.in-Some.a ≡ class_id_of env (at Q A.c) = λ env E. c.in-Some.ensures.result_value env E ∙ ap (class_id_of env) (sym H.here) in (
      name_step_lem k l A.base A.c _ _ _ P Q H.begun H.pool (name_is_class l A.base A.c c.in-Some.a _ Q is M.good),
      omega (arith, c.in-Some.ensures.small_class),
      name_queues k l A.base A.c _ _ P Q H.begun H.pool (class_queues l A.base A.c c.in-Some.a _ Q is),
    )

pub atomic_name_of-returns-in-None-clause-did : goal.atomic_name_of-returns-in-None-clause-did
atomic_name_of-returns-in-None-clause-did t c =
    let A = c.args in
    let k = A.lent.now.counters in
    let l = c.visit.new.self in
    let H = visiting A.scratch.now k l A.base 1 A.c (sym c.in_ok-visit.ensures.self_after) c.requires in
    let M = H.emitting in
    let w = words A.scratch.now in
    let e = concept_at w A.c in
    let P = pool_of w k.concepts in
    let Q = pool_of w l.concepts in
    let q = c.name_new.ensures.did in
    let is : (env : Env) → EnvIn env l w → none ≡ class_id_of env (at Q A.c) = λ env E. c.in-None.ensures.result_value env E ∙ ap (class_id_of env) (sym H.here) in (
      name_step_lem k l A.base A.c _ _ _ P Q H.begun H.pool (name_is_new k l A.base A.c _ _ _ P Q is q.0),
      q.1,
      name_queues k l A.base A.c _ _ P Q H.begun H.pool (new_queues k l A.base A.c _ _ P Q is q.2),
    )

pub emit_all-overflow_add-start : goal.emit_all-overflow_add-start
emit_all-overflow_add-start t c =
    let A = c.args in
    let k = A.lent.now.counters in
    let M = c.requires.0 in
    let w = words A.scratch.now in
    let e = concept_at w A.c in
    let P = pool_of w k.concepts in
    let start = c.child-start.result in
    let count = c.number-count.result in
    let a = members_at + start in
    let N = run_of_lem A.scratch.now k A.c start count M.reading M.held (rw c.requires.1 refl) c.child-start.ensures c.number-count.ensures in
    let l = c.loop-i in
    let T = l.invariant.0 in
    let ti = c.loop-i-test.true in
    omega (arith, ti, N.within)

pub emit_all-member-p-requires : goal.emit_all-member-p-requires
emit_all-member-p-requires t c =
    let A = c.args in
    let k = A.lent.now.counters in
    let M = c.requires.0 in
    let w = words A.scratch.now in
    let e = concept_at w A.c in
    let P = pool_of w k.concepts in
    let start = c.child-start.result in
    let count = c.number-count.result in
    let a = members_at + start in
    let N = run_of_lem A.scratch.now k A.c start count M.reading M.held (rw c.requires.1 refl) c.child-start.ensures c.number-count.ensures in
    let l = c.loop-i in
    let T = l.invariant.0 in
    let ti = c.loop-i-test.true in
    (omega (arith, ti, N.within), omega (arith, l.invariant.1, M.reading.ready.room))

pub emit_all-emit_head-requires : goal.emit_all-emit_head-requires
emit_all-emit_head-requires t c =
    let A = c.args in
    let k = A.lent.now.counters in
    let M = c.requires.0 in
    let w = words A.scratch.now in
    let e = concept_at w A.c in
    let P = pool_of w k.concepts in
    let start = c.child-start.result in
    let count = c.number-count.result in
    let a = members_at + start in
    let N = run_of_lem A.scratch.now k A.c start count M.reading M.held (rw c.requires.1 refl) c.child-start.ensures c.number-count.ensures in
    let l = c.loop-i in
    let T = l.invariant.0 in
    let ti = c.loop-i-test.true in
    let top = A.base + A.n in
    let at : hands_at ≤ 6 * top = omega (arith, M.room.above) in
    let p = c.member-p.result in
    let B = member A.scratch.now l.scratch k l.lent.counters top A.c start count l.i p M.reading T.alike at T.frame N ti c.member-p.ensures in
    let mt : 8 * A.c ≡ t = c.decreases in
    (omega (arith, mt, B.less), emitting_on A.scratch.now l.scratch k l.lent.counters A.base A.n A.c A.base A.n p top M T.alike T.good (omega arith) T.frame l.invariant.1 (omega (arith, B.less)) (omega arith) M.room.short (omega (arith, fall A.scratch.now k M.reading A.c M.held p B.less)))

pub emit_all-returns-in_err-emit_head-clause-did : goal.emit_all-returns-in_err-emit_head-clause-did
emit_all-returns-in_err-emit_head-clause-did t c =
    let A = c.args in
    let k = A.lent.now.counters in
    let M = c.requires.0 in
    let w = words A.scratch.now in
    let e = concept_at w A.c in
    let P = pool_of w k.concepts in
    let start = c.child-start.result in
    let count = c.number-count.result in
    let a = members_at + start in
    let N = run_of_lem A.scratch.now k A.c start count M.reading M.held (rw c.requires.1 refl) c.child-start.ensures c.number-count.ensures in
    let l = c.loop-i in
    let T = l.invariant.0 in
    let ti = c.loop-i-test.true in
    let list : e ≡ And (run w (members_at + start) count) = concept_7 w A.c c.requires.1 ∙ rw (c.child-start.ensures, c.number-count.ensures) refl in
    let top = A.base + A.n in
    let at : hands_at ≤ 6 * top = omega (arith, M.room.above) in
    let p = c.member-p.result in
    let B = member A.scratch.now l.scratch k l.lent.counters top A.c start count l.i p M.reading T.alike at T.frame N ti c.member-p.ensures in
    let S = sizes_of w (words l.scratch) A.lent.now l.lent l.invariant.2 in
    let Q = pool_of (words l.scratch) l.lent.counters.concepts in
    let x = err_from_is_err_and c.from_residual.result c.from_residual.ensures.1 in
    rw (x.1, x.2) (both_no _ _ _ _ _ _ _ (λ _. 0) _ (turn_stop P w a count k A.base A.n A.c A.v _ _ l.lent.counters l.i T p Q _ _ M.room.above S ti B.is B.less B.pool c.in_err-emit_head.ensures.did.0 e list _ refl))

pub emit_all-loop-i-preserved : goal.emit_all-loop-i-preserved
emit_all-loop-i-preserved t c =
    let A = c.args in
    let k = A.lent.now.counters in
    let M = c.requires.0 in
    let w = words A.scratch.now in
    let e = concept_at w A.c in
    let P = pool_of w k.concepts in
    let start = c.child-start.result in
    let count = c.number-count.result in
    let a = members_at + start in
    let N = run_of_lem A.scratch.now k A.c start count M.reading M.held (rw c.requires.1 refl) c.child-start.ensures c.number-count.ensures in
    let l = c.loop-i in
    let T = l.invariant.0 in
    let ti = c.loop-i-test.true in
    let top = A.base + A.n in
    let at : hands_at ≤ 6 * top = omega (arith, M.room.above) in
    let p = c.member-p.result in
    let B = member A.scratch.now l.scratch k l.lent.counters top A.c start count l.i p M.reading T.alike at T.frame N ti c.member-p.ensures in
    let S = sizes_of w (words l.scratch) A.lent.now l.lent l.invariant.2 in
    let Q = pool_of (words l.scratch) l.lent.counters.concepts in
    let q = c.in_ok-emit_head.ensures.did in (
      turn_next P w a count k A.base A.n A.c A.v _ _ l.lent.counters l.i T p Q _ _ M.room.above S ti B.is B.less B.pool q.0 _ _ refl,
      c.emit_head.auto.scratch ∙ l.invariant.1,
      same_then A.lent.now l.lent c.emit_head.new.lent l.invariant.2 c.emit_head.ensures.references,
      turn_queues_next P w a count k A.base A.n A.c A.v _ _ l.lent.counters l.i l.invariant.3 p Q _ _ T M.room.above S ti B.is B.less B.pool q.0 q.1 _ _ refl,
    )

pub emit_all-returns-clause-did : goal.emit_all-returns-clause-did
emit_all-returns-clause-did t c =
    let A = c.args in
    let k = A.lent.now.counters in
    let M = c.requires.0 in
    let w = words A.scratch.now in
    let e = concept_at w A.c in
    let P = pool_of w k.concepts in
    let start = c.child-start.result in
    let count = c.number-count.result in
    let a = members_at + start in
    let N = run_of_lem A.scratch.now k A.c start count M.reading M.held (rw c.requires.1 refl) c.child-start.ensures c.number-count.ensures in
    let l = c.loop-i in
    let T = l.invariant.0 in
    let list : e ≡ And (run w (members_at + start) count) = concept_7 w A.c c.requires.1 ∙ rw (c.child-start.ensures, c.number-count.ensures) refl in
    (turn_end P w a count k A.base A.n A.c A.v _ _ l.lent.counters l.i T e list c.loop-i-test.false, turn_queues_end P w a count k A.base A.n A.c A.v _ _ l.lent.counters l.i l.invariant.3 e list c.loop-i-test.false)

pub emit_head-returns-in_err-visit-clause-did : goal.emit_head-returns-in_err-visit-clause-did
emit_head-returns-in_err-visit-clause-did t c =
    let A = c.args in
    let k = A.lent.now.counters in
    let p = err_from_is_err_and c.from_residual.result c.from_residual.ensures.1 in
    rw (p.1, p.2, c.in_err-visit.ensures.spent) (both_no _ _ _ _ _ _ _ (λ _. 0) _ (head_full k A.base A.n A.c A.v _ (pool_of (words A.scratch.now) k.concepts) (sym c.in_err-visit.ensures.self_after)))

pub emit_head-returns-in_err-q-in-Named-clause-did : goal.emit_head-returns-in_err-q-in-Named-clause-did
emit_head-returns-in_err-q-in-Named-clause-did t c =
    let A = c.args in
    let k = A.lent.now.counters in
    let l = c.visit.new.self in
    let H = visiting A.scratch.now k l A.base A.n A.c (sym c.in_ok-visit.ensures.self_after) c.requires in
    let M = H.emitting in
    let w = words A.scratch.now in
    let e = concept_at w A.c in
    let P = pool_of w k.concepts in
    let Q = pool_of w l.concepts in
    let f = c.name_filler in
    let s1 = f.new.scratch in
    let top = A.base + A.n + 0 in
    let at : hands_at ≤ 6 * top = omega (arith, M.room.above) in
    let R = f.ensures.references in
    let p = err_from_is_err_and c.from_residual-in_err-q-in-Named.result c.from_residual-in_err-q-in-Named.ensures.1 in
    let q = c.in_err-q-in-Named.ensures.did in
    rw (p.1, p.2) (both_no _ _ _ _ _ _ _ (λ _. 0) _ (head_step k l A.base A.n A.c A.v _ _ _ P Q e H.begun H.pool H.before
    (named_step l A.base A.n A.c A.v _ _ _ Q e _ _ Q e (sym c.in-Named.is ∙ c.form_of.ensures) refl refl M.room.above (words_long _ _ R.3) (words_long _ _ R.4) (words_long _ _ R.5) q.0
    (did_after_no (λ env b i s. emit_named env Q A.v e b i s) l A.base A.n _ _))))

pub emit_head-emit_named-requires : goal.emit_head-emit_named-requires
emit_head-emit_named-requires t c =
    let A = c.args in
    let k = A.lent.now.counters in
    let l = c.visit.new.self in
    let H = visiting A.scratch.now k l A.base A.n A.c (sym c.in_ok-visit.ensures.self_after) c.requires in
    let M = H.emitting in
    let w = words A.scratch.now in
    let e = concept_at w A.c in
    let P = pool_of w k.concepts in
    let Q = pool_of w l.concepts in
    let f = c.name_filler in
    let s1 = f.new.scratch in
    let top = A.base + A.n + 0 in
    let at : hands_at ≤ 6 * top = omega (arith, M.room.above) in
    let i = c.in_ok-q-in-Named.q in
    let q = c.in_ok-q-in-Named.ensures.did in
    let l1 = f.new.lent.counters in
    let fr = q.0.frame in
    (reading_alike s1 l l1 q.0.kept (reading_kept A.scratch.now s1 l top M.reading at fr f.auto.scratch), rw q.0.kept.concepts M.held, subst Restricts (sym (concept_on A.scratch.now s1 l top M.reading at fr A.c M.held)) (named_restricts Q e (sym c.in-Named.is ∙ c.form_of.ensures)), q.0.good, q.1, M.room.short, omega (arith, M.room.fits, f.auto.scratch), sized_two f.new.lent.sized)

pub emit_head-returns-in-Leaf-clause-did : goal.emit_head-returns-in-Leaf-clause-did
emit_head-returns-in-Leaf-clause-did t c =
    let A = c.args in
    let k = A.lent.now.counters in
    let l = c.visit.new.self in
    let H = visiting A.scratch.now k l A.base A.n A.c (sym c.in_ok-visit.ensures.self_after) c.requires in
    let M = H.emitting in
    let w = words A.scratch.now in
    let e = concept_at w A.c in
    let P = pool_of w k.concepts in
    let Q = pool_of w l.concepts in
    let x = c.leaf_of-x in
    let form : FormIs.Leaf ≡ form_of Q e = sym c.in-Leaf.is ∙ c.form_of.ensures in (
      head_step k l A.base A.n A.c A.v _ _ _ P Q e H.begun H.pool H.before (leaf_step l A.base A.n A.c A.v _ _ _ Q e x.result form x.ensures.value c.emit_leaf.ensures.did.0),
      head_queues k l A.base A.n A.c A.v _ _ P Q e H.begun H.pool H.before (leaf_queues l A.base A.n A.c A.v _ _ Q e form c.emit_leaf.ensures.did.1),
    )

pub emit_head-returns-in-And-clause-did : goal.emit_head-returns-in-And-clause-did
emit_head-returns-in-And-clause-did t c =
    let A = c.args in
    let k = A.lent.now.counters in
    let l = c.visit.new.self in
    let H = visiting A.scratch.now k l A.base A.n A.c (sym c.in_ok-visit.ensures.self_after) c.requires in
    let M = H.emitting in
    let w = words A.scratch.now in
    let e = concept_at w A.c in
    let P = pool_of w k.concepts in
    let Q = pool_of w l.concepts in
    (head_step k l A.base A.n A.c A.v _ _ _ P Q e H.begun H.pool H.before c.emit_all.ensures.did.0, head_queues k l A.base A.n A.c A.v _ _ P Q e H.begun H.pool H.before c.emit_all.ensures.did.1)

pub emit_head-returns-in-Or-clause-did : goal.emit_head-returns-in-Or-clause-did
emit_head-returns-in-Or-clause-did t c =
    let A = c.args in
    let k = A.lent.now.counters in
    let l = c.visit.new.self in
    let H = visiting A.scratch.now k l A.base A.n A.c (sym c.in_ok-visit.ensures.self_after) c.requires in
    let M = H.emitting in
    let w = words A.scratch.now in
    let e = concept_at w A.c in
    let P = pool_of w k.concepts in
    let Q = pool_of w l.concepts in
    (head_step k l A.base A.n A.c A.v _ _ _ P Q e H.begun H.pool H.before c.emit_or.ensures.did.0, head_queues k l A.base A.n A.c A.v _ _ P Q e H.begun H.pool H.before c.emit_or.ensures.did.1)

pub emit_head-returns-in-All-clause-did : goal.emit_head-returns-in-All-clause-did
emit_head-returns-in-All-clause-did t c =
    let A = c.args in
    let k = A.lent.now.counters in
    let l = c.visit.new.self in
    let H = visiting A.scratch.now k l A.base A.n A.c (sym c.in_ok-visit.ensures.self_after) c.requires in
    let M = H.emitting in
    let w = words A.scratch.now in
    let e = concept_at w A.c in
    let P = pool_of w k.concepts in
    let Q = pool_of w l.concepts in
    (head_step k l A.base A.n A.c A.v _ _ _ P Q e H.begun H.pool H.before c.emit_under.ensures.did.0, head_queues k l A.base A.n A.c A.v _ _ P Q e H.begun H.pool H.before c.emit_under.ensures.did.1)

pub emit_head-returns-in_ok-q-in-Named-clause-did : goal.emit_head-returns-in_ok-q-in-Named-clause-did
emit_head-returns-in_ok-q-in-Named-clause-did t c =
    let A = c.args in
    let k = A.lent.now.counters in
    let l = c.visit.new.self in
    let H = visiting A.scratch.now k l A.base A.n A.c (sym c.in_ok-visit.ensures.self_after) c.requires in
    let M = H.emitting in
    let w = words A.scratch.now in
    let e = concept_at w A.c in
    let P = pool_of w k.concepts in
    let Q = pool_of w l.concepts in
    let f = c.name_filler in
    let s1 = f.new.scratch in
    let top = A.base + A.n + 0 in
    let at : hands_at ≤ 6 * top = omega (arith, M.room.above) in
    let i = c.in_ok-q-in-Named.q in
    let q = c.in_ok-q-in-Named.ensures.did in
    let l1 = f.new.lent.counters in
    let fr = q.0.frame in
    let R = f.ensures.references in
    let form : FormIs.Named ≡ form_of Q e = sym c.in-Named.is ∙ c.form_of.ensures in
    let Q2 = pool_of (words s1) l1.concepts in
    let e2 = concept_at (words s1) A.c in (
      head_step k l A.base A.n A.c A.v _ _ _ P Q e H.begun H.pool H.before
          (named_step l A.base A.n A.c A.v _ _ _ Q e _ _ Q2 e2 form (pool_alike (words s1) l l1 q.0.kept ∙ pool_on A.scratch.now s1 l top M.reading at fr) (concept_on A.scratch.now s1 l top M.reading at fr A.c M.held) M.room.above (words_long _ _ R.3) (words_long _ _ R.4) (words_long _ _ R.5) q.0
          (did_after (λ env b i s. emit_named env Q2 A.v e2 b i s) l A.base A.n l1 i _ _ _ q.0.kept (c.emit_named.ensures _))),
      head_queues k l A.base A.n A.c A.v _ _ P Q e H.begun H.pool H.before (named_queues l A.base A.n A.c A.v _ _ Q e _ form refl q.2),
    )

pub emit_or-overflow_add-start : goal.emit_or-overflow_add-start
emit_or-overflow_add-start t c =
    let A = c.args in
    let k = A.lent.now.counters in
    let M = c.requires.0 in
    let w = words A.scratch.now in
    let e = concept_at w A.c in
    let P = pool_of w k.concepts in
    let start = c.child-start.result in
    let count = c.number-count.result in
    let a = members_at + start in
    let N = run_of_lem A.scratch.now k A.c start count M.reading M.held (rw c.requires.1 refl) c.child-start.ensures c.number-count.ensures in
    let l = c.loop-i in
    let T = l.invariant.0 in
    let ti = c.loop-i-test.true in
    omega (arith, ti, N.within)

pub emit_or-member-p-requires : goal.emit_or-member-p-requires
emit_or-member-p-requires t c =
    let A = c.args in
    let k = A.lent.now.counters in
    let M = c.requires.0 in
    let w = words A.scratch.now in
    let e = concept_at w A.c in
    let P = pool_of w k.concepts in
    let start = c.child-start.result in
    let count = c.number-count.result in
    let a = members_at + start in
    let N = run_of_lem A.scratch.now k A.c start count M.reading M.held (rw c.requires.1 refl) c.child-start.ensures c.number-count.ensures in
    let l = c.loop-i in
    let T = l.invariant.0 in
    let ti = c.loop-i-test.true in
    (omega (arith, ti, N.within), omega (arith, l.invariant.1, M.reading.ready.room))

pub emit_or-head_atom_for-requires : goal.emit_or-head_atom_for-requires
emit_or-head_atom_for-requires t c =
    let A = c.args in
    let k = A.lent.now.counters in
    let M = c.requires.0 in
    let w = words A.scratch.now in
    let e = concept_at w A.c in
    let P = pool_of w k.concepts in
    let start = c.child-start.result in
    let count = c.number-count.result in
    let a = members_at + start in
    let N = run_of_lem A.scratch.now k A.c start count M.reading M.held (rw c.requires.1 refl) c.child-start.ensures c.number-count.ensures in
    let l = c.loop-i in
    let T = l.invariant.0 in
    let ti = c.loop-i-test.true in
    let top = A.base + A.n in
    let at : hands_at ≤ 6 * top = omega (arith, M.room.above) in
    let p = c.member-p.result in
    let B = member A.scratch.now l.scratch k l.lent.counters top A.c start count l.i p M.reading T.alike at T.frame N ti c.member-p.ensures in
    let mt : 8 * A.c ≡ t = c.decreases in
    (omega (arith, mt, B.less), emitting_on A.scratch.now l.scratch k l.lent.counters A.base A.n A.c _ 1 p top M T.alike T.good (omega arith) T.frame l.invariant.1 (omega (arith, B.less)) (omega arith) (omega arith) (omega (arith, N.gap p B.less, ti)))

pub emit_or-returns-in_err-a-clause-did : goal.emit_or-returns-in_err-a-clause-did
emit_or-returns-in_err-a-clause-did t c =
    let A = c.args in
    let k = A.lent.now.counters in
    let M = c.requires.0 in
    let w = words A.scratch.now in
    let e = concept_at w A.c in
    let P = pool_of w k.concepts in
    let start = c.child-start.result in
    let count = c.number-count.result in
    let a = members_at + start in
    let N = run_of_lem A.scratch.now k A.c start count M.reading M.held (rw c.requires.1 refl) c.child-start.ensures c.number-count.ensures in
    let l = c.loop-i in
    let T = l.invariant.0 in
    let ti = c.loop-i-test.true in
    let list : e ≡ Or (run w (members_at + start) count) = concept_8 w A.c c.requires.1 ∙ rw (c.child-start.ensures, c.number-count.ensures) refl in
    let top = A.base + A.n in
    let at : hands_at ≤ 6 * top = omega (arith, M.room.above) in
    let p = c.member-p.result in
    let B = member A.scratch.now l.scratch k l.lent.counters top A.c start count l.i p M.reading T.alike at T.frame N ti c.member-p.ensures in
    let S = sizes_of w (words l.scratch) A.lent.now l.lent l.invariant.2 in
    let Q = pool_of (words l.scratch) l.lent.counters.concepts in
    let h = c.head_atom_for in
    let R = same_then A.lent.now l.lent h.new.lent l.invariant.2 h.ensures.references in
    let S2 = sizes_of w (words h.new.scratch) A.lent.now h.new.lent R in
    let x = err_from_is_err_and c.from_residual.result c.from_residual.ensures.1 in
    rw (x.1, x.2) (both_no _ _ _ _ _ _ _ (λ _. 0) _ (or_stop P w a count k A.base A.n A.c A.v _ e list _ l.lent.counters l.i T M.room.above S p Q _ _ _ refl S2 ti B.is B.less B.pool c.in_err-a.ensures.did.0 _ refl))

pub emit_or-returns-in_default-clause-did : goal.emit_or-returns-in_default-clause-did
emit_or-returns-in_default-clause-did t c =
    let A = c.args in
    let k = A.lent.now.counters in
    let M = c.requires.0 in
    let w = words A.scratch.now in
    let e = concept_at w A.c in
    let P = pool_of w k.concepts in
    let start = c.child-start.result in
    let count = c.number-count.result in
    let a = members_at + start in
    let N = run_of_lem A.scratch.now k A.c start count M.reading M.held (rw c.requires.1 refl) c.child-start.ensures c.number-count.ensures in
    let l = c.loop-i in
    let T = l.invariant.0 in
    let ti = c.loop-i-test.true in
    let list : e ≡ Or (run w (members_at + start) count) = concept_8 w A.c c.requires.1 ∙ rw (c.child-start.ensures, c.number-count.ensures) refl in
    let top = A.base + A.n in
    let at : hands_at ≤ 6 * top = omega (arith, M.room.above) in
    let p = c.member-p.result in
    let B = member A.scratch.now l.scratch k l.lent.counters top A.c start count l.i p M.reading T.alike at T.frame N ti c.member-p.ensures in
    let S = sizes_of w (words l.scratch) A.lent.now l.lent l.invariant.2 in
    let Q = pool_of (words l.scratch) l.lent.counters.concepts in
    let h = c.head_atom_for in
    let R = same_then A.lent.now l.lent h.new.lent l.invariant.2 h.ensures.references in
    let S2 = sizes_of w (words h.new.scratch) A.lent.now h.new.lent R in
    let q = c.in_ok-a.ensures.did in
    let k1 = h.new.lent.counters in
    let er : headed k1 (Ok c.in_ok-a.field-0) ≡ Head.Absent k1 = ap (λ (o : Option Atom). headed k1 (Ok o)) c.in_default.is in
    let d = c.defer.ensures in (
      or_absent P w a count k A.base A.n A.c A.v _ e list _ l.lent.counters l.i T M.room.above S p Q _ _ _ refl S2 ti B.is B.less B.pool q.0 _ _ _ er d.good_answer d.kept_answer d.deferrals_after,
      or_queues_absent P w a count k A.base A.n A.c A.v _ e list _ l.lent.counters l.i l.invariant.3 T M.room.above S p Q _ _ _ refl S2 ti B.is B.less B.pool q.0 q.1 _ _ refl er,
    )

pub emit_or-returns-then-i-ge256-clause-did : goal.emit_or-returns-then-i-ge256-clause-did
emit_or-returns-then-i-ge256-clause-did t c =
    let A = c.args in
    let k = A.lent.now.counters in
    let M = c.requires.0 in
    let w = words A.scratch.now in
    let e = concept_at w A.c in
    let P = pool_of w k.concepts in
    let start = c.child-start.result in
    let count = c.number-count.result in
    let a = members_at + start in
    let N = run_of_lem A.scratch.now k A.c start count M.reading M.held (rw c.requires.1 refl) c.child-start.ensures c.number-count.ensures in
    let l = c.loop-i in
    let T = l.invariant.0 in
    let ti = c.loop-i-test.true in
    let list : e ≡ Or (run w (members_at + start) count) = concept_8 w A.c c.requires.1 ∙ rw (c.child-start.ensures, c.number-count.ensures) refl in
    let top = A.base + A.n in
    let at : hands_at ≤ 6 * top = omega (arith, M.room.above) in
    let p = c.member-p.result in
    let B = member A.scratch.now l.scratch k l.lent.counters top A.c start count l.i p M.reading T.alike at T.frame N ti c.member-p.ensures in
    let S = sizes_of w (words l.scratch) A.lent.now l.lent l.invariant.2 in
    let Q = pool_of (words l.scratch) l.lent.counters.concepts in
    let h = c.head_atom_for in
    let R = same_then A.lent.now l.lent h.new.lent l.invariant.2 h.ensures.references in
    let S2 = sizes_of w (words h.new.scratch) A.lent.now h.new.lent R in
    let q = c.in_ok-a.ensures.did in
    let k1 = h.new.lent.counters in
    let er : headed k1 (Ok c.in_ok-a.field-0) ≡ Head.Made k1 c.in-Some.a = ap (λ (o : Option Atom). headed k1 (Ok o)) c.in-Some.is in
    both_no _ _ _ _ _ _ _ (λ _. 0) _ (or_long P w a count k A.base A.n A.c A.v _ e list _ l.lent.counters l.i T M.room.above S p Q _ _ _ refl S2 ti B.is B.less B.pool q.0 _ _ er c.if-i-ge256.true)

pub emit_or-loop-i-preserved : goal.emit_or-loop-i-preserved
emit_or-loop-i-preserved t c =
    let A = c.args in
    let k = A.lent.now.counters in
    let M = c.requires.0 in
    let w = words A.scratch.now in
    let e = concept_at w A.c in
    let P = pool_of w k.concepts in
    let start = c.child-start.result in
    let count = c.number-count.result in
    let a = members_at + start in
    let N = run_of_lem A.scratch.now k A.c start count M.reading M.held (rw c.requires.1 refl) c.child-start.ensures c.number-count.ensures in
    let l = c.loop-i in
    let T = l.invariant.0 in
    let ti = c.loop-i-test.true in
    let list : e ≡ Or (run w (members_at + start) count) = concept_8 w A.c c.requires.1 ∙ rw (c.child-start.ensures, c.number-count.ensures) refl in
    let top = A.base + A.n in
    let at : hands_at ≤ 6 * top = omega (arith, M.room.above) in
    let p = c.member-p.result in
    let B = member A.scratch.now l.scratch k l.lent.counters top A.c start count l.i p M.reading T.alike at T.frame N ti c.member-p.ensures in
    let S = sizes_of w (words l.scratch) A.lent.now l.lent l.invariant.2 in
    let Q = pool_of (words l.scratch) l.lent.counters.concepts in
    let h = c.head_atom_for in
    let R = same_then A.lent.now l.lent h.new.lent l.invariant.2 h.ensures.references in
    let S2 = sizes_of w (words h.new.scratch) A.lent.now h.new.lent R in
    let q = c.in_ok-a.ensures.did in
    let k1 = h.new.lent.counters in
    let er : headed k1 (Ok c.in_ok-a.field-0) ≡ Head.Made k1 c.in-Some.a = ap (λ (o : Option Atom). headed k1 (Ok o)) c.in-Some.is in
    let put = c.put_atom in
    let fit : 6 * (top + l.i) + 6 ≤ length (words h.new.scratch) = omega (arith, length_words h.new.scratch, h.auto.scratch, l.invariant.1, M.room.fits, N.full, ti) in (
      or_next P w a count k A.base A.n A.c A.v _ e list _ l.lent.counters l.i T M.room.above S p Q _ _ _ refl S2 ti B.is B.less B.pool q.0 _ _ _ er c.if-i-ge256.false put.ensures fit,
      put.auto.t ∙ h.auto.scratch ∙ l.invariant.1,
      R,
      or_queues_next P w a count k A.base A.n A.c A.v _ e list _ l.lent.counters l.i l.invariant.3 T M.room.above S p Q _ _ _ refl S2 ti B.is B.less B.pool q.0 q.1 _ _ _ er c.if-i-ge256.false put.ensures (omega (arith, M.room.below, N.full, ti)),
    )

pub emit_or-returns-clause-did : goal.emit_or-returns-clause-did
emit_or-returns-clause-did t c =
    let A = c.args in
    let k = A.lent.now.counters in
    let M = c.requires.0 in
    let w = words A.scratch.now in
    let e = concept_at w A.c in
    let P = pool_of w k.concepts in
    let start = c.child-start.result in
    let count = c.number-count.result in
    let a = members_at + start in
    let N = run_of_lem A.scratch.now k A.c start count M.reading M.held (rw c.requires.1 refl) c.child-start.ensures c.number-count.ensures in
    let l = c.loop-i in
    let T = l.invariant.0 in
    let list : e ≡ Or (run w (members_at + start) count) = concept_8 w A.c c.requires.1 ∙ rw (c.child-start.ensures, c.number-count.ensures) refl in
    let S = sizes_of w (words l.scratch) A.lent.now l.lent l.invariant.2 in
    let q = c.push_run.ensures in (
      or_end P w a count k A.base A.n A.c A.v _ e list _ l.lent.counters l.i T M.room.above S _ _ _ c.loop-i-test.false q.good_answer q.kept_answer q.d_after,
      or_queues_end P w a count k A.base A.n A.c A.v _ e list _ l.lent.counters l.i l.invariant.3 _ refl c.loop-i-test.false,
    )

pub emit_under-returns-then-n-ge256-clause-did : goal.emit_under-returns-then-n-ge256-clause-did
emit_under-returns-then-n-ge256-clause-did t c =
    let A = c.args in
    let k = A.lent.now.counters in
    let M = c.requires.0 in
    let w = words A.scratch.now in
    let e = concept_at w A.c in
    let P = pool_of w k.concepts in
    let kd = c.requires.1 in
    both_no _ _ _ _ _ _ _ (λ _. 0) _ (under_full k A.base A.n A.c A.v _ P e (role_of (field w A.c 1)) (field w A.c 3) (concept_10 w A.c kd) c.if-n-ge256.true)

pub emit_under-emit_head-requires : goal.emit_under-emit_head-requires
emit_under-emit_head-requires t c =
    let A = c.args in
    let k = A.lent.now.counters in
    let M = c.requires.0 in
    let w = words A.scratch.now in
    let e = concept_at w A.c in
    let P = pool_of w k.concepts in
    let kd = c.requires.1 in
    let fv = c.fresh_var-y in
    let l = fv.new.self in
    let y = fv.result in
    let cr = c.canon-role in
    let d = c.child-d.result in
    let put = c.put_atom in
    let s1 = put.new.t in
    let al = alike_var k l fv.ensures.self_after in
    let less : d < A.c = omega (arith, child_10 A.scratch.now k M.reading A.c M.held kd, c.child-d.ensures) in
    let fit : 6 * (A.base + A.n) + 6 ≤ length w = omega (arith, length_words A.scratch.now, M.room.fits) in
    let fr = put_frame A.base A.n w (words s1) (six (AtomIs.Role cr.result A.v y)) (6 * (A.base + A.n)) put.ensures fit in
    let mt : 8 * A.c ≡ t = c.decreases in
    (omega (arith, mt, less), emitting_on A.scratch.now s1 k l A.base A.n A.c A.base _ d (A.base + A.n) M al (good_var k l fv.ensures.self_after M.good c.requires.2) (omega arith) fr put.auto.t (omega (arith, less)) (omega arith) (omega (arith, c.if-n-ge256.false)) (omega (arith, fall A.scratch.now k M.reading A.c M.held d less)))

pub emit_under-returns-clause-did : goal.emit_under-returns-clause-did
emit_under-returns-clause-did t c =
    let A = c.args in
    let k = A.lent.now.counters in
    let M = c.requires.0 in
    let w = words A.scratch.now in
    let e = concept_at w A.c in
    let P = pool_of w k.concepts in
    let kd = c.requires.1 in
    let fv = c.fresh_var-y in
    let l = fv.new.self in
    let y = fv.result in
    let cr = c.canon-role in
    let d = c.child-d.result in
    let put = c.put_atom in
    let s1 = put.new.t in
    let al = alike_var k l fv.ensures.self_after in
    let less : d < A.c = omega (arith, child_10 A.scratch.now k M.reading A.c M.held kd, c.child-d.ensures) in
    let fit : 6 * (A.base + A.n) + 6 ≤ length w = omega (arith, length_words A.scratch.now, M.room.fits) in
    let fr = put_frame A.base A.n w (words s1) (six (AtomIs.Role cr.result A.v y)) (6 * (A.base + A.n)) put.ensures fit in
    let Q = pool_of (words s1) l.concepts in
    let r = role_of (field w A.c 1) in
    let is : e ≡ All r d = concept_10 w A.c kd ∙ ap (All r) (sym c.child-d.ensures) in
    let ep : Q ≡ P = pool_alike (words s1) k l al ∙ pool_on A.scratch.now s1 k (A.base + A.n) M.reading (omega (arith, M.room.above)) fr in (
      under_go k l A.base A.n A.c A.v y w (words s1) _ _ _ _ _ P Q e r cr.result d is ep c.if-n-ge256.false M.room.above fv.ensures.result_value fv.ensures.self_after cr.ensures.value put.ensures fit less c.emit_head.ensures.did.0,
      under_queues k l A.base A.n A.c A.v y w (words s1) _ _ _ _ P Q e r cr.result d is ep c.if-n-ge256.false M.room.above fv.ensures.result_value fv.ensures.self_after cr.ensures.value put.ensures fit (omega (arith, M.room.below)) less c.emit_head.ensures.did.1,
    )

pub head_atom_for-returns-in_err-visit-clause-did : goal.head_atom_for-returns-in_err-visit-clause-did
head_atom_for-returns-in_err-visit-clause-did t c =
    let A = c.args in
    let k = A.lent.now.counters in
    let p = err_from_is_err_and c.from_residual.result c.from_residual.ensures.1 in
    rw (p.1, p.2, c.in_err-visit.ensures.spent) (atom_no _ _ _ _ _ _ _ (atom_full k A.base A.c A.v _ (pool_of (words A.scratch.now) k.concepts) (sym c.in_err-visit.ensures.self_after)))

pub head_atom_for-returns-in_err-q-in-Whole-clause-did : goal.head_atom_for-returns-in_err-q-in-Whole-clause-did
head_atom_for-returns-in_err-q-in-Whole-clause-did t c =
    let A = c.args in
    let k = A.lent.now.counters in
    let l = c.visit.new.self in
    let H = visiting A.scratch.now k l A.base 1 A.c (sym c.in_ok-visit.ensures.self_after) c.requires in
    let M = H.emitting in
    let w = words A.scratch.now in
    let e = concept_at w A.c in
    let P = pool_of w k.concepts in
    let Q = pool_of w l.concepts in
    let dj = c.disjunct_of in
    let p = err_from_is_err_and c.from_residual-in_err-q-in-Whole.result c.from_residual-in_err-q-in-Whole.ensures.1 in
    rw (p.1, p.2) (atom_no _ _ _ _ _ _ _ (atom_step k l A.base A.c A.v _ _ _ P Q e dj.result H.begun H.pool H.here dj.ensures.value (atom_whole l A.base A.c A.v Q e dj.result _ _ _ _ c.in-Whole.is M.room.above c.in_err-q-in-Whole.ensures.did.0 (made_after_no (λ env q. AtomIs.Class q A.v) l _ _))))

pub head_atom_for-returns-in_err-q-in-Filler-clause-did : goal.head_atom_for-returns-in_err-q-in-Filler-clause-did
head_atom_for-returns-in_err-q-in-Filler-clause-did t c =
    let A = c.args in
    let k = A.lent.now.counters in
    let l = c.visit.new.self in
    let H = visiting A.scratch.now k l A.base 1 A.c (sym c.in_ok-visit.ensures.self_after) c.requires in
    let M = H.emitting in
    let w = words A.scratch.now in
    let e = concept_at w A.c in
    let P = pool_of w k.concepts in
    let Q = pool_of w l.concepts in
    let dj = c.disjunct_of in
    let p = err_from_is_err_and c.from_residual-in_err-q-in-Filler.result c.from_residual-in_err-q-in-Filler.ensures.1 in
    rw (p.1, p.2) (atom_no _ _ _ _ _ _ _ (atom_step k l A.base A.c A.v _ _ _ P Q e dj.result H.begun H.pool H.here dj.ensures.value (atom_filler l A.base A.c A.v Q e dj.result _ _ _ _ Q e c.in-Filler.is M.room.above refl refl c.in_err-q-in-Filler.ensures.did.0 (made_after_no (λ env q. filler_atom env Q A.v e q) l _ _))))

pub head_atom_for-filler_atom-a-requires : goal.head_atom_for-filler_atom-a-requires
head_atom_for-filler_atom-a-requires t c =
    let A = c.args in
    let k = A.lent.now.counters in
    let l = c.visit.new.self in
    let H = visiting A.scratch.now k l A.base 1 A.c (sym c.in_ok-visit.ensures.self_after) c.requires in
    let M = H.emitting in
    let w = words A.scratch.now in
    let e = concept_at w A.c in
    let P = pool_of w k.concepts in
    let Q = pool_of w l.concepts in
    let dj = c.disjunct_of in
    let f = c.name_filler in
    let s1 = f.new.scratch in
    let top = A.base + 0 in
    let at : hands_at ≤ 6 * top = omega (arith, M.room.above) in
    let i = c.in_ok-q-in-Filler.q in
    let q = c.in_ok-q-in-Filler.ensures.did in
    let l1 = f.new.lent.counters in
    let fr = q.0.frame in
    (reading_alike s1 l l1 q.0.kept (reading_kept A.scratch.now s1 l top M.reading at fr f.auto.scratch), rw q.0.kept.concepts M.held, subst Restricts (sym (concept_on A.scratch.now s1 l top M.reading at fr A.c M.held)) c.in-Filler.ensures.disjunct_fits, q.1)

pub head_atom_for-returns-in-Ready-clause-did : goal.head_atom_for-returns-in-Ready-clause-did
head_atom_for-returns-in-Ready-clause-did t c =
    let A = c.args in
    let k = A.lent.now.counters in
    let l = c.visit.new.self in
    let H = visiting A.scratch.now k l A.base 1 A.c (sym c.in_ok-visit.ensures.self_after) c.requires in
    let M = H.emitting in
    let w = words A.scratch.now in
    let e = concept_at w A.c in
    let P = pool_of w k.concepts in
    let Q = pool_of w l.concepts in
    let dj = c.disjunct_of in (
      atom_step k l A.base A.c A.v _ _ _ P Q e dj.result H.begun H.pool H.here dj.ensures.value (atom_ready l A.base A.c A.v Q e dj.result _ c.in-Ready.a c.in-Ready.is M.good c.in-Ready.ensures.disjunct_fits),
      atom_queues k l A.base A.c A.v _ _ P Q e dj.result H.begun H.pool H.here dj.ensures.value (ready_queues l A.base A.c A.v Q e dj.result _ c.in-Ready.a c.in-Ready.is),
    )

pub head_atom_for-returns-in-Negated-clause-did : goal.head_atom_for-returns-in-Negated-clause-did
head_atom_for-returns-in-Negated-clause-did t c =
    let A = c.args in
    let k = A.lent.now.counters in
    let l = c.visit.new.self in
    let H = visiting A.scratch.now k l A.base 1 A.c (sym c.in_ok-visit.ensures.self_after) c.requires in
    let M = H.emitting in
    let w = words A.scratch.now in
    let e = concept_at w A.c in
    let P = pool_of w k.concepts in
    let Q = pool_of w l.concepts in
    let dj = c.disjunct_of in
    let q = c.name_negated.ensures in (
      atom_step k l A.base A.c A.v _ _ _ P Q e dj.result H.begun H.pool H.here dj.ensures.value (atom_negated l A.base A.c A.v Q e dj.result _ _ _ c.in-Negated.a c.in-Negated.is (q.0 _)),
      atom_queues k l A.base A.c A.v _ _ P Q e dj.result H.begun H.pool H.here dj.ensures.value (negated_queues l A.base A.c A.v Q e dj.result _ _ c.in-Negated.a c.in-Negated.is q.1),
    )

pub head_atom_for-returns-in-Absent-clause-did : goal.head_atom_for-returns-in-Absent-clause-did
head_atom_for-returns-in-Absent-clause-did t c =
    let A = c.args in
    let k = A.lent.now.counters in
    let l = c.visit.new.self in
    let H = visiting A.scratch.now k l A.base 1 A.c (sym c.in_ok-visit.ensures.self_after) c.requires in
    let M = H.emitting in
    let w = words A.scratch.now in
    let e = concept_at w A.c in
    let P = pool_of w k.concepts in
    let Q = pool_of w l.concepts in
    let dj = c.disjunct_of in (
      atom_step k l A.base A.c A.v _ _ _ P Q e dj.result H.begun H.pool H.here dj.ensures.value (atom_absent l A.base A.c A.v Q e dj.result _ c.in-Absent.is M.good),
      atom_queues k l A.base A.c A.v _ _ P Q e dj.result H.begun H.pool H.here dj.ensures.value (absent_queues l A.base A.c A.v Q e dj.result _ c.in-Absent.is),
    )

pub head_atom_for-returns-in_ok-q-in-Whole-clause-did : goal.head_atom_for-returns-in_ok-q-in-Whole-clause-did
head_atom_for-returns-in_ok-q-in-Whole-clause-did t c =
    let A = c.args in
    let k = A.lent.now.counters in
    let l = c.visit.new.self in
    let H = visiting A.scratch.now k l A.base 1 A.c (sym c.in_ok-visit.ensures.self_after) c.requires in
    let M = H.emitting in
    let w = words A.scratch.now in
    let e = concept_at w A.c in
    let P = pool_of w k.concepts in
    let Q = pool_of w l.concepts in
    let dj = c.disjunct_of in
    let i = c.in_ok-q-in-Whole.q in
    let q = c.in_ok-q-in-Whole.ensures.did in (
      atom_step k l A.base A.c A.v _ _ _ P Q e dj.result H.begun H.pool H.here dj.ensures.value (atom_whole l A.base A.c A.v Q e dj.result _ _ _ _ c.in-Whole.is M.room.above q.0 (made_after (λ env q. AtomIs.Class q A.v) l _ _ i (AtomIs.Class i A.v) q.0.good q.0.kept q.1 (λ env E. refl))),
      atom_queues k l A.base A.c A.v _ _ P Q e dj.result H.begun H.pool H.here dj.ensures.value (whole_queues l A.base A.c A.v Q e dj.result _ _ c.in-Whole.is q.2),
    )

pub head_atom_for-returns-in_ok-q-in-Filler-clause-did : goal.head_atom_for-returns-in_ok-q-in-Filler-clause-did
head_atom_for-returns-in_ok-q-in-Filler-clause-did t c =
    let A = c.args in
    let k = A.lent.now.counters in
    let l = c.visit.new.self in
    let H = visiting A.scratch.now k l A.base 1 A.c (sym c.in_ok-visit.ensures.self_after) c.requires in
    let M = H.emitting in
    let w = words A.scratch.now in
    let e = concept_at w A.c in
    let P = pool_of w k.concepts in
    let Q = pool_of w l.concepts in
    let dj = c.disjunct_of in
    let f = c.name_filler in
    let s1 = f.new.scratch in
    let top = A.base + 0 in
    let at : hands_at ≤ 6 * top = omega (arith, M.room.above) in
    let i = c.in_ok-q-in-Filler.q in
    let q = c.in_ok-q-in-Filler.ensures.did in
    let l1 = f.new.lent.counters in
    let fr = q.0.frame in
    let Q2 = pool_of (words s1) l1.concepts in
    let e2 = concept_at (words s1) A.c in
    let a = c.filler_atom-a in (
      atom_step k l A.base A.c A.v _ _ _ P Q e dj.result H.begun H.pool H.here dj.ensures.value
          (atom_filler l A.base A.c A.v Q e dj.result _ _ _ _ Q2 e2 c.in-Filler.is M.room.above (pool_alike (words s1) l l1 q.0.kept ∙ pool_on A.scratch.now s1 l top M.reading at fr) (concept_on A.scratch.now s1 l top M.reading at fr A.c M.held) q.0
          (made_after (λ env q. filler_atom env Q2 A.v e2 q) l (words s1) l1 i a.result q.0.good q.0.kept a.ensures.fits (λ env E. a.ensures.value env (env_alike env l l1 (words s1) q.0.kept E)))),
      atom_queues k l A.base A.c A.v _ _ P Q e dj.result H.begun H.pool H.here dj.ensures.value (restricted_queues l A.base A.c A.v Q e dj.result _ _ c.in-Filler.is q.2),
    )

pub name_filler-atomic_name_of-requires : goal.name_filler-atomic_name_of-requires
name_filler-atomic_name_of-requires t c =
    let A = c.args in
    let k = A.lent.now.counters in
    let M = c.requires.0 in
    let w = words A.scratch.now in
    let e = concept_at w A.c in
    let P = pool_of w k.concepts in
    let g = c.requires.1 in
    let d = c.child-d.result in
    let ed = c.child-d.ensures in
    let less : d < A.c = omega (arith, ed, filler_below A.scratch.now k M.reading A.c M.held g) in
    let s1 = c.wait.new.scratch in
    let fr = waited_below w (words s1) d k.next_class (6 * A.base) (equal_names k.options && (is_max e && anew (concept_at w d))) c.wait.ensures (omega (arith, M.room.below)) in
    let mt : 8 * A.c ≡ t = c.decreases in
    (omega (arith, mt, less), emitting_on A.scratch.now s1 k k A.base 0 A.c A.base 1 d A.base M (alike_same k) M.good (omega arith) fr c.wait.auto.scratch (omega (arith, less)) (omega arith) (omega arith) (omega (arith, fall A.scratch.now k M.reading A.c M.held d less)))

pub name_filler-returns-clause-did : goal.name_filler-returns-clause-did
name_filler-returns-clause-did t c =
    let A = c.args in
    let k = A.lent.now.counters in
    let M = c.requires.0 in
    let w = words A.scratch.now in
    let e = concept_at w A.c in
    let P = pool_of w k.concepts in
    let g = c.requires.1 in
    let d = c.child-d.result in
    let ed = c.child-d.ensures in
    let less : d < A.c = omega (arith, ed, filler_below A.scratch.now k M.reading A.c M.held g) in
    let s1 = c.wait.new.scratch in
    let fr = waited_below w (words s1) d k.next_class (6 * A.base) (equal_names k.options && (is_max e && anew (concept_at w d))) c.wait.ensures (omega (arith, M.room.below)) in
    let q = c.atomic_name_of.ensures.did in
    let Q = pool_of (words s1) k.concepts in
    let ep = pool_on A.scratch.now s1 k A.base M.reading M.room.above fr in
    let child : (plain e).child ≡ d = sym (filler_is A.scratch.now k M.reading A.c M.held g) ∙ sym ed in (
      filler_step k A.base A.c d w (words s1) _ _ _ _ _ P Q e ep M.room.above fr g child less q.0,
      q.1,
      filler_queues k A.base A.c d w (words s1) _ _ _ _ P Q e (concept_at w d) ep M.room.above fr g child less (omega (arith, M.room.queue, length_words A.scratch.now)) (pool_at w k.concepts d (omega (arith, less, M.held))) c.wait.ensures q.2,
    )

pub name_new-emit_head-requires : goal.name_new-emit_head-requires
name_new-emit_head-requires t c =
    let A = c.args in
    let k = A.lent.now.counters in
    let M = c.requires.0 in
    let w = words A.scratch.now in
    let e = concept_at w A.c in
    let P = pool_of w k.concepts in
    let fc = c.fresh_class-q in
    let l = fc.new.self in
    let q = fc.result in
    let put = c.put_atom in
    let s1 = put.new.t in
    let al = alike_class k l fc.ensures.self_after in
    let fit : 6 * A.base + 6 ≤ length w = omega (arith, length_words A.scratch.now, M.room.fits) in
    let fr = put_frame A.base 0 w (words s1) (six (AtomIs.Class q 0)) (6 * A.base) put.ensures fit in
    let mt : 8 * A.c + 2 ≡ t = c.decreases in
    (omega (arith, mt), emitting_on A.scratch.now s1 k l A.base 1 A.c A.base 1 A.c A.base M al (good_class k l fc.ensures.self_after M.good c.requires.1) (omega arith) fr put.auto.t (omega arith) (omega arith) (omega arith) (omega arith))

pub name_new-returns-in_err-emit_head-clause-did : goal.name_new-returns-in_err-emit_head-clause-did
name_new-returns-in_err-emit_head-clause-did t c =
    let A = c.args in
    let k = A.lent.now.counters in
    let M = c.requires.0 in
    let w = words A.scratch.now in
    let e = concept_at w A.c in
    let P = pool_of w k.concepts in
    let fc = c.fresh_class-q in
    let l = fc.new.self in
    let q = fc.result in
    let put = c.put_atom in
    let s1 = put.new.t in
    let al = alike_class k l fc.ensures.self_after in
    let fit : 6 * A.base + 6 ≤ length w = omega (arith, length_words A.scratch.now, M.room.fits) in
    let fr = put_frame A.base 0 w (words s1) (six (AtomIs.Class q 0)) (6 * A.base) put.ensures fit in
    let Q = pool_of (words s1) l.concepts in
    let ep : Q ≡ P = pool_alike (words s1) k l al ∙ pool_on A.scratch.now s1 k A.base M.reading M.room.above fr in
    let p = err_from_is_err_and c.from_residual.result c.from_residual.ensures.1 in
    let h = c.in_err-emit_head.ensures.did in
    let D = name_go k l A.base A.c q w (words s1) _ _ _ _ _ _ P Q ep M.room.above fc.ensures.result_value fc.ensures.self_after put.ensures fit tt tt (λ c a d. refl) h.0 in
    rw (p.1, p.2) (D, tt, queues_no _ _ _ _ _ _ _ (λ q. q) _ D)

pub name_new-returns-clause-did : goal.name_new-returns-clause-did
name_new-returns-clause-did t c =
    let A = c.args in
    let k = A.lent.now.counters in
    let M = c.requires.0 in
    let w = words A.scratch.now in
    let e = concept_at w A.c in
    let P = pool_of w k.concepts in
    let fc = c.fresh_class-q in
    let l = fc.new.self in
    let q = fc.result in
    let put = c.put_atom in
    let s1 = put.new.t in
    let al = alike_class k l fc.ensures.self_after in
    let fit : 6 * A.base + 6 ≤ length w = omega (arith, length_words A.scratch.now, M.room.fits) in
    let fr = put_frame A.base 0 w (words s1) (six (AtomIs.Class q 0)) (6 * A.base) put.ensures fit in
    let Q = pool_of (words s1) l.concepts in
    let ep : Q ≡ P = pool_alike (words s1) k l al ∙ pool_on A.scratch.now s1 k A.base M.reading M.room.above fr in
    let h = c.in_ok-emit_head.ensures.did in (
      name_go k l A.base A.c q w (words s1) _ _ _ _ _ _ P Q ep M.room.above fc.ensures.result_value fc.ensures.self_after put.ensures fit h.0.good h.0.kept (λ c a d. refl) h.0,
      rw fc.ensures.result_value (class_fits k M.good),
      fresh_queues k l A.base A.c q w (words s1) _ _ _ _ P Q ep M.room.above fc.ensures.result_value fc.ensures.self_after put.ensures fit (omega (arith, M.room.below)) h.1,
    )
