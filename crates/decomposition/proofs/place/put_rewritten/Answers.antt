use Prim.Native.Nat.{◌+◌, ◌*◌}
use Rattle.words.specs.Words.{words}
use Rattle.branches.specs.Layout.{body_at}
use Rattle.decomposition.specs.PlaceLaws.{part_then_moved}
use Rattle.decomposition.proofs.place.put_rewritten.Goals as goal

pub returns-clause-atoms_after : goal.returns-clause-atoms_after
returns-clause-atoms_after c =
    let a = c.args in
    part_then_moved a.scratch.now body_at a.n (6 * a.to) (6 * a.head) (6 * (a.to + a.n)) (6 * a.nh) (words a.atoms.now) (words c.copy_words.new.s) (words c.move_words.new.s) c.copy_words.ensures c.move_words.ensures
