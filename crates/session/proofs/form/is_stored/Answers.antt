use Rattle.std.proofs.Common.{arith, ◌∙◌, sym, ◌+◌, ◌-◌, length, drop, length-drop, take_all, eqb-true, leb-true, leb-false}
use Rattle.session.specs.FormLaws.{stored_tested, stored_untested, stored_short_not}
use Rattle.session.proofs.form.is_stored.Goals as goal
use Rattle.session.proofs.form.is_stored.Goals.{then-session-eq-BYTES, else-session-eq-BYTES}

pub returns-then-length-le-MOST : goal.returns-then-length-le-MOST
returns-then-length-le-MOST c =
    let s = c.args.session.now in
    let n = c.length-then-length-le-MOST.result in
    elim c.if-session-eq-BYTES.branch [
      | then-session-eq-BYTES w ↦
          let h = leb-true w.length.result 65536 (sym w.value-is ∙ c.if-length-le-MOST.true) in
          stored_tested s _ n c.zeros.result w.if-session-eq-BYTES.true (λ k. omega (arith, (c.type_inv.session k).fits)) c.length-then-length-le-MOST.ensures
          (omega (arith, h, w.length.ensures, c.length-then-length-le-MOST.ensures)) (take_all (length s - (4 + n)) (drop (4 + n) s) (omega (arith, length-drop (4 + n) s))) c.zeros.ensures
      | else-session-eq-BYTES w ↦ absurd (w.if-session-eq-BYTES.false (eqb-true (length s) 65540 (sym w.value-is ∙ c.if-length-le-MOST.true)))
    ]

pub returns-else-length-le-MOST : goal.returns-else-length-le-MOST
returns-else-length-le-MOST c =
    let s = c.args.session.now in
    c.if-length-le-MOST.false
    ∙ elim c.if-session-eq-BYTES.branch [
      | then-session-eq-BYTES w ↦
          stored_untested s w.length.result w.if-session-eq-BYTES.true (λ k. omega (arith, (c.type_inv.session k).fits)) w.length.ensures
          (λ h. omega (arith, h, leb-false w.length.result 65536 (sym w.value-is ∙ c.if-length-le-MOST.false)))
      | else-session-eq-BYTES w ↦ sym (stored_short_not s w.if-session-eq-BYTES.false)
    ]
