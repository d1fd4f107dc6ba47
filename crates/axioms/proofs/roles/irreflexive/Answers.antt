use Rattle.ir.specs.declared.atom.Atom.TheVariants.{Role as RoleAtom}
use Rattle.axioms.specs.RoleLaws.{hand_one, frame_one, irreflexive_did}
use Rattle.ir.specs.Roles.{role_of}
use Rattle.words.specs.Laws.{length_words}
use Rattle.words.specs.Words.{words}
use lib.ListN.{length}
use native.Mathlib.Omega.{arith}
use Prim.Native.Nat.{◌+◌, ◌*◌, ◌≤◌}
use Rattle.axioms.proofs.roles.irreflexive.Goals as goal

pub returns : goal.returns
returns c = let w = words c.args.scratch.now in
    let room : 6 * 13500 + 6 ≤ length (words c.args.scratch.now) = omega (arith, length_words c.args.scratch.now, c.requires.1) in
    let e1 = c.put_atom.ensures in
    let x = c.canon in
    λ d. irreflexive_did c.args.k.now 13500 w _ _ _ d _ x.result (role_of c.args.r) _ (omega arith) x.ensures.value (frame_one 13500 w _ (RoleAtom x.result 0 0) e1 room) (hand_one 13500 w _ (RoleAtom x.result 0 0) e1 room)
    (c.push_none.ensures d)
