use mathlib.Core.Path.{◌≡◌, sym, ap, ◌∙◌}
use native.Mathlib.Omega.{arith}
use Rattle.words.specs.Words.{words}
use Rattle.pool.specs.Layout.{field, is_list}
use Rattle.extents.proofs.ThereLaws.{below_trial, size_fits, self_room, not_room, joint_room, joint_few, is_self, is_not, is_and, is_or}
use Rattle.extents.proofs.composed_set.Goals as goal

pub loops-requires : goal.loops-requires
loops-requires c =
    let a = c.args in
    let q = self_room a.scratch.now a.t a.c c.requires.0 (sym c.kind-kind.ensures ∙ c.in-5.is) in
    (omega (arith, q, c.role-role.ensures), size_fits a.scratch.now a.t a.c c.requires.0, c.requires.0.space)

pub complement-requires : goal.complement-requires
complement-requires c =
    let a = c.args in
    let q = not_room a.scratch.now a.t a.c c.requires.0 (sym c.kind-kind.ensures ∙ c.in-6.is) in
    (omega (arith, q, c.child-child.ensures), size_fits a.scratch.now a.t a.c c.requires.0, c.requires.0.space)

pub joint_set-requires : goal.joint_set-requires
joint_set-requires c =
    let a = c.args in
    let e = ap is_list (sym c.kind-kind.ensures ∙ c.in-7.is) in
    rw (c.child-child.ensures, c.number-number.ensures) (joint_room a.scratch.now a.t a.c c.requires.0 e, size_fits a.scratch.now a.t a.c c.requires.0, c.requires.0.space, joint_few a.scratch.now a.t a.c c.requires.0 e)

pub joint_set-requires-in_default : goal.joint_set-requires-in_default
joint_set-requires-in_default c =
    let a = c.args in
    let k : field (words a.scratch.now) a.c 0 ≡ 8 = omega arith in
    let e = ap is_list k in
    rw (c.child-child.ensures, c.number-number.ensures) (joint_room a.scratch.now a.t a.c c.requires.0 e, size_fits a.scratch.now a.t a.c c.requires.0, c.requires.0.space, joint_few a.scratch.now a.t a.c c.requires.0 e)

pub returns-in-5 : goal.returns-in-5
returns-in-5 c =
    let a = c.args in
    λ w. is_self w (words a.scratch.now) a.t a.c (below_trial a.scratch.now a.t a.c c.requires.0) _ (sym c.kind-kind.ensures ∙ c.in-5.is)
    (rw (← c.role-role.ensures) c.loops.ensures)

pub returns-in-6 : goal.returns-in-6
returns-in-6 c =
    let a = c.args in
    λ w. is_not w (words a.scratch.now) a.t a.c (below_trial a.scratch.now a.t a.c c.requires.0) _ (sym c.kind-kind.ensures ∙ c.in-6.is)
    (rw (← c.child-child.ensures) c.complement.ensures)

pub returns-in-7 : goal.returns-in-7
returns-in-7 c =
    let a = c.args in
    λ w. is_and w (words a.scratch.now) a.t a.c (below_trial a.scratch.now a.t a.c c.requires.0) _ (sym c.kind-kind.ensures ∙ c.in-7.is)
    (rw (← c.child-child.ensures, ← c.number-number.ensures) c.joint_set.ensures)

pub returns-in_default : goal.returns-in_default
returns-in_default c =
    let a = c.args in
    λ w. is_or w (words a.scratch.now) a.t a.c (below_trial a.scratch.now a.t a.c c.requires.0) _
    (omega arith)
    (rw (← c.child-child.ensures, ← c.number-number.ensures) c.joint_set-in_default.ensures)
