use Rattle.ir.specs.declared.atom.Atom.TheVariants.{Role as RoleAtom}
use Rattle.axioms.specs.RoleLaws.{good_vars, hand_two, frame_two, not_both_did}
use Rattle.ir.specs.declared.counters.Counters.{Counters}
use Rattle.ir.specs.Roles.{role_of}
use Rattle.words.specs.Laws.{length_words}
use Rattle.words.specs.Words.{words}
use lib.ListN.{length}
use native.Mathlib.Omega.{arith}
use Prim.Native.Nat.{◌+◌, ◌*◌, ◌≤◌}
use mathlib.Core.Path.{◌≡◌, refl, ap}
use Rattle.axioms.proofs.roles.not_both.Goals as goal

pub push_none-requires : goal.push_none-requires
push_none-requires c = let room = c.requires.2 in
    (omega arith, omega (arith, room), (good_vars c.args.k.now _ _ _ c.restart_vars.ensures c.fresh_var-y.ensures.self_after refl c.requires.3).0, c.requires.4)

pub returns : goal.returns
returns c = let w = words c.args.scratch.now in
    let room : 6 * 13500 + 12 ≤ length (words c.args.scratch.now) = omega (arith, length_words c.args.scratch.now, c.requires.2) in
    let x = c.canon in
    let y = c.fresh_var-y.ensures in
    let o = c.second-b in
    let e = ap (λ (x : Counters). x.next_var) c.restart_vars.ensures in
    let ey : c.fresh_var-y.result ≡ 1 = omega (arith, y.result_value, e) in
    let e1 = rw ey at c.put_atom.ensures in
    let e2 = c.put_atom-2.ensures in
    let is = rw ey at o.ensures.value in
    λ d. not_both_did c.args.k.now _ _ 13500 w _ _ _ d _ x.result c.canon-2.result (role_of c.args.r) (role_of c.args.s) o.result c.args.back _ (omega arith)
    c.restart_vars.ensures y.self_after x.ensures.value c.canon-2.ensures.value is
    (frame_two 13500 w _ (RoleAtom x.result 0 1) e1 _ o.result e2 room) (hand_two 13500 w _ (RoleAtom x.result 0 1) e1 _ o.result e2 room) (c.push_none.ensures d)
