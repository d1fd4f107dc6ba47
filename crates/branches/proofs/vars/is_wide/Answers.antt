use mathlib.Core.Path.{sym, ◌∙◌}
use native.Mathlib.Omega.{arith}
use Rattle.branches.specs.WideLaws.{walked_start, walked_role, walked_other, walked_stop, walked_end}
use Rattle.branches.proofs.vars.is_wide.Goals as goal
use Rattle.branches.proofs.vars.is_wide.Goals.{then-kind-eq-ROLE+else-n-gt-MOST, else-kind-eq-ROLE}

pub loop-i-init : goal.loop-i-init
loop-i-init c = walked_start c.args.body.now c.atom_room-i-end.result c.args.root c.atom_room-i-end.ensures

pub returns-then-n-gt-MOST : goal.returns-then-n-gt-MOST
returns-then-n-gt-MOST c =
    let L = c.loop-i in
    let g1 = c.var in
    let g2 = c.other in
    let f1 = c.from_root in
    let f2 = c.from_root-then-kind-eq-ROLE in
    let r1 = c.see-n in
    let r2 = c.see-n-then-kind-eq-ROLE in
    walked_stop c.args.body.now c.atom_room-i-end.result c.args.root L.seen L.n L.i L.invariant c.loop-i-test.true g1.result g2.result f1.result f2.result r1.result r2.result r1.new.seen r2.new.seen
    (sym c.kind.ensures ∙ c.if-kind-eq-ROLE.true) g1.ensures g2.ensures f1.ensures f2.ensures r1.ensures.0 r2.ensures.0
    (r2.auto.seen ∙ r1.auto.seen ∙ L.invariant.room) (omega (arith, L.invariant.few, r1.ensures.2, r2.ensures.2)) c.if-n-gt-MOST.true

pub loop-i-preserved : goal.loop-i-preserved
loop-i-preserved c =
    let n = c.atom_room-i-end.result in
    let L = c.loop-i in
    let h = c.loop-i-test.true in
    let g = c.kind in
    elim c.if-kind-eq-ROLE.branch [
      | then-kind-eq-ROLE+else-n-gt-MOST w ↦ rw (w.seen-is, w.n-is)
          (walked_role c.args.body.now n c.args.root L.seen L.n L.i L.invariant h w.var.result w.other.result w.from_root.result w.from_root-then-kind-eq-ROLE.result w.see-n.result w.see-n-then-kind-eq-ROLE.result w.see-n.new.seen w.see-n-then-kind-eq-ROLE.new.seen
          (sym g.ensures ∙ w.if-kind-eq-ROLE.true) w.var.ensures w.other.ensures w.from_root.ensures w.from_root-then-kind-eq-ROLE.ensures w.see-n.ensures.0 w.see-n-then-kind-eq-ROLE.ensures.0
          (w.see-n-then-kind-eq-ROLE.auto.seen ∙ w.see-n.auto.seen ∙ L.invariant.room) w.if-n-gt-MOST.false)
      | else-kind-eq-ROLE w ↦ rw (w.seen-is, w.n-is) (walked_other c.args.body.now n c.args.root L.seen L.n L.i L.invariant h (λ e. w.if-kind-eq-ROLE.false (g.ensures ∙ e)))
    ]

pub returns : goal.returns
returns c =
    let L = c.loop-i in
    walked_end c.args.body.now c.atom_room-i-end.result c.args.root L.seen L.n L.i L.invariant c.loop-i-test.false
