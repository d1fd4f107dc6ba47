use Rattle.ir.specs.declared.atom.Atom.TheVariants.{Role as RoleAtom}
use Rattle.axioms.specs.RoleLaws.{good_vars, hand_three, frame_three, chain_did}
use Rattle.pool.specs.Layout.{pool_of}
use Rattle.ir.specs.declared.counters.Counters.{Counters}
use Rattle.ir.specs.Roles.{role_of}
use Rattle.words.specs.Laws.{length_words}
use Rattle.words.specs.Words.{words}
use lib.ListN.{length}
use native.Mathlib.Omega.{arith}
use Prim.Native.Nat.{ℕ, ◌+◌, ◌*◌, ◌≤◌}
use lib.Seq.{sets}
use Rattle.ir.specs.Records.{six}
use mathlib.Core.Path.{◌≡◌, ap, subst}
use Rattle.axioms.proofs.roles.chain.Goals as goal

pub push_run-requires : goal.push_run-requires
push_run-requires c = let room = c.requires.3 in
    (omega arith, omega arith, omega (arith, room), (good_vars c.args.k.now _ _ _ c.restart_vars.ensures c.fresh_var-y.ensures.self_after c.fresh_var-z.ensures.self_after c.requires.4).1, c.requires.5)

pub returns : goal.returns
returns c = let A = c.args in
    let w = words c.args.scratch.now in
    let room : 6 * 13500 + 18 ≤ length (words c.args.scratch.now) = omega (arith, length_words c.args.scratch.now, c.requires.3) in
    let p = c.push_run.ensures in
    let y = c.fresh_var-y.ensures in
    let z = c.fresh_var-z.ensures in
    let e = ap (λ (x : Counters). x.next_var) c.restart_vars.ensures in
    let h = ap (λ (x : Counters). x.next_var) y.self_after in
    let ey : c.fresh_var-y.result ≡ 1 = omega (arith, y.result_value, e) in
    let ez : c.fresh_var-z.result ≡ 2 = omega (arith, z.result_value, h, e) in
    let e1 = rw ey at c.put_atom.ensures in
    let e2 = rw (ey, ez) at c.put_atom-2.ensures in
    let e3 = subst (λ (n : ℕ). words c.put_atom-3.new.t ≡ sets (words c.put_atom-2.new.t) (6 * (13500 + 2)) (six (RoleAtom c.canon-3.result 0 n))) ez c.put_atom-3.ensures in
    λ d. chain_did A.k.now _ _ _ 13500 (pool_of (words c.args.scratch.now) A.k.now.concepts) (words c.args.scratch.now) _ _ _ _ _ d _ _ _ (role_of A.r) (role_of A.s) (role_of A.t) _
    c.restart_vars.ensures y.self_after z.self_after
    c.canon.ensures.value c.canon-2.ensures.value c.canon-3.ensures.value
    (frame_three 13500 (words c.args.scratch.now) _ (RoleAtom c.canon.result 0 1) e1 _ (RoleAtom c.canon-2.result 1 2) e2 _ (RoleAtom c.canon-3.result 0 2) e3 room)
    (hand_three 13500 (words c.args.scratch.now) _ (RoleAtom c.canon.result 0 1) e1 _ (RoleAtom c.canon-2.result 1 2) e2 _ (RoleAtom c.canon-3.result 0 2) e3 room)
    p.d_after p.good_answer p.kept_answer
