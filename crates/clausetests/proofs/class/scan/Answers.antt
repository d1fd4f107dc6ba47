use native.Mathlib.Omega.{arith}
use mathlib.Core.Path.{refl, sym, ap, ◌∙◌}
use Prim.Native.Nat.{◌+◌, ◌*◌}
use Rattle.clausetests.specs.ScanCode.{set_of, set_none, scanned_empty, scanned_broken, scanned_from}
use Rattle.clausetests.proofs.class.scan.Goals as goal

pub returns-then-state-eq0 : goal.returns-then-state-eq0
returns-then-state-eq0 c = let a = c.args in set_none a.state.now.size ∙ ap (set_of a.state.now.size) (sym (scanned_empty a.state.now.text.now a.c c.if-state-eq0.true))

pub returns-in_default : goal.returns-in_default
returns-in_default c = let a = c.args in set_none a.state.now.size ∙ ap (set_of a.state.now.size) (sym (scanned_broken a.state.now.text.now a.c 0 refl c.in_default.ensures.result_value))

pub returns : goal.returns
returns c =
    let a = c.args in
    let R = c.in-Some in
    c.scan_lines.ensures ∙ ap (set_of a.state.now.size) (sym (scanned_from a.state.now.text.now a.c R.n (11 * R.n + 1) (λ z. absurd (omega (arith, z, R.ensures.result_in_bounds.0))) R.ensures.result_value refl))
