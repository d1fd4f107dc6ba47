use borrow.Author.Rules.{rules}
use mathlib.Core.Path.{refl}
use Prim.Native.Nat.{◌+◌, ◌*◌, ◌/◌, ◌≤◌}
use native.Mathlib.Omega.{arith}
use lib.ListN.{length}
use Rattle.words.specs.Words.{words}
use Rattle.words.specs.Laws.{length_words}
use Rattle.contraction.specs.InHands.{hand_at}
use Rattle.counted.specs.PutLaws.{loop_hand, loop_frame}
use Rattle.counted.proofs.loops.put_loop.Goals as goal

pub put_atom-requires : goal.put_atom-requires
put_atom-requires c = (search rules, omega (arith, c.requires.2))

pub put_atom-requires-2 : goal.put_atom-requires-2
put_atom-requires-2 c = (search rules, omega (arith, c.requires.2))

pub returns : goal.returns
returns c =
    let e1 = c.copy_words.ensures in
    let e2 = c.put_atom.ensures in
    let e3 = c.put_atom-2.ensures in
    let b = c.args.body.now in
    let w = words c.args.scratch.now in
    let fit : 6 * (hand_at + length b / 24 + 2) ≤ length w = omega (arith, length_words c.args.scratch.now, c.requires.1, c.requires.3) in
    record {
      in_hand = loop_hand b w _ _ _ (length b / 24) c.args.v c.args.fresh c.args.role refl fit e1 e2 e3;
      scratch_unchanged = loop_frame b w _ _ _ (length b / 24) c.args.v c.args.fresh c.args.role refl fit e1 e2 e3 c.requires.0;
    }
