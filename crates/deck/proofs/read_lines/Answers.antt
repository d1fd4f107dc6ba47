use native.Mathlib.Omega.{arith}
use mathlib.Core.Path.{refl, sym, ap, ◌∙◌}
use Rattle.std.proofs.Common.{rules, is_ok}
use Rattle.ir.specs.Refusals.{refusal_number}
use Rattle.std.proofs.lemmas.Result.{err_from_is_err_and}
use Rattle.deck.proofs.LineLaws.{default_state, refusal_some, good_number, bad_number, going_first, going_broken, going_numbers, going_bad, going_on, going_end}
use Rattle.deck.proofs.read_lines.Goals as goal

pub loop-begin-init : goal.loop-begin-init
loop-begin-init c =
    let d = c.default-st.ensures in
    let e = default_state c.default-st.result d.0 d.1.0 d.1.1.0 d.1.1.1.0 d.1.1.1.1.0 d.1.1.1.1.1.0 d.1.1.1.1.1.1.0 d.1.1.1.1.1.1.1.0 d.1.1.1.1.1.1.1.1 in
    rw e (going_first c.args.deck.now c.args.t.now c.requires.0 c.requires.1 (λ z. search rules))

pub returns-in_default-clause-result_after : goal.returns-in_default-clause-result_after
returns-in_default-clause-result_after c = going_broken c.args.deck.now c.args.t.now c.loop-begin.t c.loop-begin.st c.loop-begin.begin c.loop-begin.line c.loop-begin.invariant c.loop-begin-test.true 0 c.in_default.ensures.result_value refl

pub returns-in_err-map_err-clause-result_after : goal.returns-in_err-map_err-clause-result_after
returns-in_err-map_err-clause-result_after c =
    let p = err_from_is_err_and c.from_residual.result c.from_residual.ensures.1 in
    let b = bad_number c.verdict.result c.map_err.result c.loop-begin.line _ (λ r d k. search rules) c.map_err.ensures.variant c.map_err.ensures.cases c.in_err-map_err.field-0.0 c.in_err-map_err.was in
    rw (p.1, p.2, b.1) (going_bad c.args.deck.now c.args.t.now c.loop-begin.t c.loop-begin.st c.loop-begin.begin c.loop-begin.line c.loop-begin.invariant c.loop-begin-test.true c.in-Some.fields c.in-Some.ensures.result_value (λ z. absurd (omega (arith, z, c.in-Some.ensures.result_in_bounds.0))) (refusal_number c.in_err-map_err.field-0.0.refusal) (b.0 ∙ c.verdict.ensures) (refusal_some c.in_err-map_err.field-0.0.refusal))

pub enter-st-requires : goal.enter-st-requires
enter-st-requires c = record {
  line = c.in-Some.ensures.result_in_bounds.1;
  held = c.loop-begin.invariant.held;
  numbers = going_numbers c.args.deck.now c.args.t.now c.loop-begin.t c.loop-begin.st c.loop-begin.begin c.loop-begin.line c.loop-begin.invariant c.loop-begin-test.true c.in-Some.fields c.in-Some.ensures.result_value (λ z. absurd (omega (arith, z, c.in-Some.ensures.result_in_bounds.0)));
  good = sym c.verdict.ensures ∙ good_number c.verdict.result (sym c.map_err.ensures.variant ∙ ap is_ok c.in_ok-map_err.was);
}

pub loop-begin-preserved : goal.loop-begin-preserved
loop-begin-preserved c =
    rw c.behind-begin.ensures (going_on c.args.deck.now c.args.t.now c.loop-begin.t c.loop-begin.st c.loop-begin.begin c.loop-begin.line c.loop-begin.invariant c.loop-begin-test.true c.in-Some.fields c.in-Some.ensures.result_value (λ z. absurd (omega (arith, z, c.in-Some.ensures.result_in_bounds.0))) c.enter-st.new.t c.enter-st.result
    (sym c.verdict.ensures ∙ good_number c.verdict.result (sym c.map_err.ensures.variant ∙ ap is_ok c.in_ok-map_err.was)) c.enter-st.ensures c.enter-st.auto.t c.in-Some.ensures.result_in_bounds.1)

pub returns-clause-result_after : goal.returns-clause-result_after
returns-clause-result_after c = going_end c.args.deck.now c.args.t.now c.loop-begin.t c.loop-begin.st c.loop-begin.begin c.loop-begin.line c.loop-begin.invariant c.loop-begin-test.false
