use mathlib.Core.Path.{refl, ◌∙◌}
use native.Mathlib.Omega.{arith}
use Rattle.std.proofs.lemmas.Result.{err_from_is_err_and}
use Rattle.words.specs.Words.{words}
use Rattle.heads.specs.LoopLaws.{sizes_on}
use Rattle.axioms.specs.BodyLaws.{write_ready, hand_fits, bodies_start, short_body, written_frame, bodies_next, bodies_stop, bodies_end, waits_start, waits_next, waits_stop, waits_end}
use Rattle.axioms.specs.HeadLaws.{emitting, emitted, emitted_queues}
use Rattle.axioms.proofs.bodies.emit_bodies.Goals as goal

pub loop-i-init : goal.loop-i-init
loop-i-init c = (bodies_start _ _ _ _ _ _ c.requires.4, refl, (refl, refl, refl, refl, refl, refl), waits_start _ _ _ _ _ _)

pub write_alternative-end-requires : goal.write_alternative-end-requires
write_alternative-end-requires c = let L = c.loop-i in
    write_ready c.args.scratch.now L.scratch c.args.lent.now.counters L.lent.counters 13500 c.args.sub c.requires.0 c.requires.1 (omega arith) (omega (arith, c.requires.3)) L.invariant.1 L.invariant.0.frame L.invariant.0.alike

pub overflow_sub-n : goal.overflow_sub-n
overflow_sub-n c = let L = c.loop-i in
    let sh = short_body _ _ _ _ _ _ _ _ _ L.invariant.0 c.loop-i-test.true c.requires.0.reading.ready.held _ _ c.write_alternative-end.ensures c.requires.5 in
    omega (arith, sh.0)

pub overflow_cast-n : goal.overflow_cast-n
overflow_cast-n c = let L = c.loop-i in
    let sh = short_body _ _ _ _ _ _ _ _ _ L.invariant.0 c.loop-i-test.true c.requires.0.reading.ready.held _ _ c.write_alternative-end.ensures c.requires.5 in
    omega (arith, sh.0, sh.1)

pub emit_head-requires : goal.emit_head-requires
emit_head-requires c = let L = c.loop-i in
    let sh = short_body _ _ _ _ _ _ _ _ _ L.invariant.0 c.loop-i-test.true c.requires.0.reading.ready.held _ _ c.write_alternative-end.ensures c.requires.5 in
    let W = c.write_alternative-end in
    let f = written_frame _ _ _ _ _ _ _ _ _ L.invariant.0 c.loop-i-test.true c.requires.0.reading.ready.held _ _ W.ensures in
    emitting c.args.scratch.now _ c.args.lent.now.counters L.lent.counters _ c.args.head c.requires.0.reading (W.auto.scratch ∙ L.invariant.1) f L.invariant.0.alike L.invariant.0.good (omega (arith, sh.1)) c.requires.2 c.requires.3

pub returns-in_err-emit_head-clause-did : goal.returns-in_err-emit_head-clause-did
returns-in_err-emit_head-clause-did c = let p = err_from_is_err_and c.from_residual.result c.from_residual.ensures.1 in
    let L = c.loop-i in let h = c.loop-i-test.true in let W = c.write_alternative-end in let A = c.args.lent.now in let S = L.invariant.2 in
    let H = c.requires.0.reading.ready.held in
    let D = emitted (words c.args.scratch.now) A.counters L.lent.counters 13500 _ c.args.head 0 _ _ _ H (written_frame _ _ _ _ _ _ _ _ _ L.invariant.0 h H _ _ W.ensures) L.invariant.0.alike c.in_err-emit_head.ensures.did.0 in
    let B = bodies_stop _ _ _ _ _ _ _ _ _ L.invariant.0 h H _ _ W.ensures (hand_fits c.args.scratch.now L.scratch (omega (arith, c.requires.3)) L.invariant.1)
    (sizes_on _ _ A.clauses.now A.atoms.now A.deferrals.now L.lent.clauses.now L.lent.atoms.now L.lent.deferrals.now S.3 S.4 S.5) _ refl _ _ D _ refl in
    rw (p.1, p.2) (B, waits_stop _ _ _ _ _ _ _ _ B)

pub loop-i-preserved : goal.loop-i-preserved
loop-i-preserved c = let L = c.loop-i in let h = c.loop-i-test.true in let W = c.write_alternative-end in let P = c.emit_head in let A = c.args.lent.now in let S = L.invariant.2 in let R = P.ensures.references in
    let H = c.requires.0.reading.ready.held in
    let f = written_frame _ _ _ _ _ _ _ _ _ L.invariant.0 h H _ _ W.ensures in
    let fits = hand_fits c.args.scratch.now L.scratch (omega (arith, c.requires.3)) L.invariant.1 in
    let sizes = sizes_on (words c.args.scratch.now) (words L.scratch) A.clauses.now A.atoms.now A.deferrals.now L.lent.clauses.now L.lent.atoms.now L.lent.deferrals.now S.3 S.4 S.5 in
    let D = emitted (words c.args.scratch.now) A.counters L.lent.counters 13500 _ c.args.head 0 _ _ _ H f L.invariant.0.alike c.in_ok-emit_head.ensures.did.0 in
    let Q = emitted_queues (words c.args.scratch.now) A.counters L.lent.counters 13500 _ c.args.head 0 _ _ H f L.invariant.0.alike P.ensures.did.1 in (
      bodies_next _ _ _ _ _ _ _ _ _ L.invariant.0 h H _ _ W.ensures fits sizes _ refl _ _ D _ 0 refl,
      P.auto.scratch ∙ W.auto.scratch ∙ L.invariant.1,
      (R.0 ∙ S.0, R.1 ∙ S.1, R.2 ∙ S.2, R.3 ∙ S.3, R.4 ∙ S.4, R.5 ∙ S.5),
      waits_next _ _ _ _ _ _ _ _ _ L.invariant.0 h H _ _ W.ensures fits sizes _ refl _ _ D Q L.invariant.3 _ 0 refl,
    )

pub returns-clause-did : goal.returns-clause-did
returns-clause-did c = let L = c.loop-i in (bodies_end _ _ _ _ _ _ _ _ _ L.invariant.0 c.loop-i-test.false, waits_end _ _ _ _ _ _ _ _ _ L.invariant.0 c.loop-i-test.false L.invariant.3)
