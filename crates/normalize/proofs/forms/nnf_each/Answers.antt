use mathlib.Core.Path.{ap}
use Prim.Native.Nat.{◌+◌}
use Rattle.std.proofs.Common.{rules}
use Rattle.std.proofs.lemmas.Result.{err_from_is_err_and}
use Rattle.ir.specs.Answer.{done}
use Rattle.ir.specs.Refusals.{refusal_number}
use Rattle.normalize.specs.LinedLaws.{lined_err, lined_ok}
use Rattle.normalize.specs.AxiomTurns.{going_first, going_asks, going_next, going_stop, going_end}
use Rattle.normalize.proofs.forms.nnf_each.Goals as goal

pub loop-i-init : goal.loop-i-init
loop-i-init c = going_first _ _ _ _ c.requires.0 c.requires.2

pub nnf_axiom-requires : goal.nnf_axiom-requires
nnf_axiom-requires c = (going_asks _ _ _ _ _ _ _ c.loop-i.invariant, c.loop-i-test.true, c.loop-i.invariant.known)

pub returns-in_err-map_err : goal.returns-in_err-map_err
returns-in_err-map_err c =
    let p = err_from_is_err_and c.from_residual.result c.from_residual.ensures.1 in
    let q = c.nnf_axiom in
    let d = c.in_err-map_err.field-0.0 in
    let b = lined_err q.result c.map_err.result (c.args.line + c.loop-i.i) _ (λ r d k. search rules) c.map_err.ensures.cases c.map_err.ensures.variant d c.in_err-map_err.was in
    let E = q.ensures in
    let both = going_stop _ _ _ _ _ _ _ c.loop-i.invariant c.loop-i-test.true (done q.new.k q.result) _ q.auto.scratch (refusal_number d.refusal) (ap (done q.new.k) b.0) (E.scratch_after, (E.held_run, (E.kept, E.known_after))) in
    rw (p.1, p.2, b.1) record { scratch_after = both.0; held_lined = both.1.0; kept = both.1.1 }

pub loop-i-preserved : goal.loop-i-preserved
loop-i-preserved c =
    let q = c.nnf_axiom in
    let E = q.ensures in
    let o = lined_ok _ q.result c.map_err.result _ c.map_err.ensures.cases c.map_err.ensures.variant c.in_ok-map_err.was in
    going_next _ _ _ _ _ _ _ c.loop-i.invariant c.loop-i-test.true (done q.new.k q.result) _ q.auto.scratch _ _ (ap (done q.new.k) o) (E.scratch_after, (E.held_run, (E.kept, E.known_after)))

pub returns : goal.returns
returns c =
    let both = going_end _ _ _ _ _ _ _ c.loop-i.invariant c.loop-i-test.false in
    record { scratch_after = both.0; held_lined = both.1.0; kept = both.1.1 }
