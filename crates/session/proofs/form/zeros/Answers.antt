use Rattle.std.proofs.Common.{rules, ◌-◌, arith, length, take, drop, refl, length-drop, take_all}
use Rattle.session.specs.FormLaws.{zeros_from}
use Rattle.session.proofs.form.zeros.Goals as goal

pub returns-then-bytes-eq0 : goal.returns-then-bytes-eq0
returns-then-bytes-eq0 c =
    let s = c.args.bytes.now in
    zeros_from s (take (length s - 1) (drop 1 s)) (take (length s - 1) s) c.eq.result (search rules) c.if-bytes-eq0.true (take_all (length s - 1) (drop 1 s) (omega (arith, length-drop 1 s))) refl c.eq.ensures
