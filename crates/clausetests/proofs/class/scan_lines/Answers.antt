use mathlib.Core.Path.{refl, sym, ap, ◌∙◌}
use Prim.Native.Nat.{suc}
use native.Mathlib.Omega.{arith}
use lib.ListN.{length, drop}
use Rattle.states.specs.ScanLaws.{scan_by}
use Rattle.clausetests.specs.ScanCode.{set_of, set_none, left_first, left_end, left_broken, left_found, left_next}
use Rattle.clausetests.proofs.class.scan_lines.Goals as goal

pub loop-p-init : goal.loop-p-init
loop-p-init c = let a = c.args in left_first a.state.now.text.now a.c a.from c.requires

pub returns-in_default : goal.returns-in_default
returns-in_default c =
    let a = c.args in
    let L = c.loop-p in
    set_none a.state.now.size ∙ ap (set_of a.state.now.size) (sym (left_broken a.state.now.text.now a.c L.p (scan_by (suc (length (drop a.from a.state.now.text.now))) (drop a.from a.state.now.text.now) a.c) L.invariant 0 c.loop-p-test.true c.in_default.ensures.result_value refl))

pub is_line-requires : goal.is_line-requires
is_line-requires c = omega (arith, c.in-Some.ensures.result_in_bounds.1)

pub line_set-requires : goal.line_set-requires
line_set-requires c = omega (arith, c.in-Some.ensures.result_in_bounds.1)

pub returns-then-is_line : goal.returns-then-is_line
returns-then-is_line c =
    let a = c.args in
    let L = c.loop-p in
    let R = c.in-Some in
    c.line_set.ensures ∙ ap (set_of a.state.now.size) (sym (left_found a.state.now.text.now a.c L.p (scan_by (suc (length (drop a.from a.state.now.text.now))) (drop a.from a.state.now.text.now) a.c) L.invariant R.n c.loop-p-test.true R.ensures.result_value (λ z. absurd (omega (arith, z, R.ensures.result_in_bounds.0))) (sym c.is_line.ensures ∙ c.if-is_line.true)))

pub loop-p-preserved : goal.loop-p-preserved
loop-p-preserved c =
    let a = c.args in
    let L = c.loop-p in
    let R = c.in-Some in
    left_next a.state.now.text.now a.c L.p (scan_by (suc (length (drop a.from a.state.now.text.now))) (drop a.from a.state.now.text.now) a.c) L.invariant R.n c.loop-p-test.true R.ensures.result_value (λ z. absurd (omega (arith, z, R.ensures.result_in_bounds.0))) R.ensures.result_in_bounds.1 (sym c.is_line.ensures ∙ c.if-is_line.false)

pub returns : goal.returns
returns c =
    let a = c.args in
    let L = c.loop-p in
    set_none a.state.now.size ∙ ap (set_of a.state.now.size) (sym (left_end a.state.now.text.now a.c L.p (scan_by (suc (length (drop a.from a.state.now.text.now))) (drop a.from a.state.now.text.now) a.c) L.invariant c.loop-p-test.false))
