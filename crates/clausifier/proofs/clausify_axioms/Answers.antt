use Rattle.clausifier.specs.AllLaws.{going_first, going_asks, going_next, going_stop, going_end}
use Rattle.ir.specs.Answer.{done}
use Rattle.ir.specs.Refusals.{refusal_number}
use native.Mathlib.Omega.{arith}
use mathlib.Core.Path.{refl, ap, ◌∙◌}
use Rattle.std.proofs.Common.{rules}
use Rattle.std.proofs.lemmas.Result.{err_from_is_err_and}
use Rattle.normalize.specs.LinedLaws.{lined_err, lined_ok}
use Prim.{tt}
use Prim.Native.Nat.{◌+◌}
use Rattle.clausifier.proofs.clausify_axioms.Goals as goal

pub loop-i-init : goal.loop-i-init
loop-i-init c =
    let t = c.args.lent.now in
    (going_first c.args.scratch.now t.clauses.now t.atoms.now t.deferrals.now c.args.n c.args.line t.counters c.requires.0, (refl, refl, refl, refl, refl, refl))

pub overflow_add-here : goal.overflow_add-here
overflow_add-here c = omega (arith, c.loop-i-test.true, c.requires.1.held.few, c.requires.3)

pub clausify_whole-requires : goal.clausify_whole-requires
clausify_whole-requires c =
    let L = c.loop-i in
    let t = c.args.lent.now in
    going_asks c.args.scratch.now t.clauses.now t.atoms.now t.deferrals.now c.args.n c.args.line t.counters c.requires.1 L.scratch L.lent.clauses.now L.lent.atoms.now L.lent.deferrals.now L.lent.counters L.i L.invariant.0 c.loop-i-test.true (c.args.line + L.i) refl c.at_line.new.self c.at_line.ensures c.requires.2

pub returns-in_err-map_err : goal.returns-in_err-map_err
returns-in_err-map_err c =
    let L = c.loop-i in
    let S = L.invariant.1 in
    let t = c.args.lent.now in
    let r = c.clausify_whole in
    let R = r.ensures.references in
    let p = err_from_is_err_and c.from_residual.result c.from_residual.ensures.1 in
    let d = c.in_err-map_err.field-0.0 in
    let b = lined_err r.result c.map_err.result (c.args.line + L.i) _ (λ r d k. search rules) c.map_err.ensures.cases c.map_err.ensures.variant d c.in_err-map_err.was in
    let e = refusal_number d.refusal in
    rw (p.1, p.2, b.1) record {
      references = (R.0 ∙ S.0, R.1 ∙ S.1, R.2 ∙ S.2, R.3 ∙ S.3, R.4 ∙ S.4, R.5 ∙ S.5);
      fact = going_stop c.args.scratch.now t.clauses.now t.atoms.now t.deferrals.now c.args.n c.args.line t.counters c.requires.1 L.scratch L.lent.clauses.now L.lent.atoms.now L.lent.deferrals.now L.lent.counters L.i L.invariant.0 c.loop-i-test.true (c.args.line + L.i) refl c.at_line.new.self c.at_line.ensures _ _ _ _ r.auto.scratch R.3 R.4 R.5 (done r.new.lent.counters r.result) r.ensures.fact e (ap (done r.new.lent.counters) b.0);
      clausifying_lined = tt;
    }

pub loop-i-preserved : goal.loop-i-preserved
loop-i-preserved c =
    let L = c.loop-i in
    let S = L.invariant.1 in
    let t = c.args.lent.now in
    let r = c.clausify_whole in
    let R = r.ensures.references in
    let o = lined_ok _ r.result c.map_err.result _ c.map_err.ensures.cases c.map_err.ensures.variant c.in_ok-map_err.was in (
      going_next c.args.scratch.now t.clauses.now t.atoms.now t.deferrals.now c.args.n c.args.line t.counters c.requires.1 L.scratch L.lent.clauses.now L.lent.atoms.now L.lent.deferrals.now L.lent.counters L.i L.invariant.0 c.loop-i-test.true (c.args.line + L.i) refl c.at_line.new.self c.at_line.ensures _ _ _ _ r.auto.scratch R.3 R.4 R.5 (done r.new.lent.counters r.result) r.ensures.fact r.new.lent.counters 0 (ap (done r.new.lent.counters) o) r.ensures.clausifying_after,
      (R.0 ∙ S.0, R.1 ∙ S.1, R.2 ∙ S.2, R.3 ∙ S.3, R.4 ∙ S.4, R.5 ∙ S.5),
    )

pub returns : goal.returns
returns c =
    let L = c.loop-i in
    let t = c.args.lent.now in record {
      references = L.invariant.1;
      fact = going_end c.args.scratch.now t.clauses.now t.atoms.now t.deferrals.now c.args.n c.args.line t.counters c.requires.1 L.scratch L.lent.clauses.now L.lent.atoms.now L.lent.deferrals.now L.lent.counters L.i L.invariant.0 c.loop-i-test.false;
      clausifying_lined = L.invariant.0.ready;
    }
