use mathlib.Core.Path.{ap, ◌∙◌}
use Prim.Native.Nat.{◌+◌, ◌*◌}
use native.Mathlib.Omega.{arith}
use lib.ListN.{length}
use Rattle.words.specs.Words.{words}
use Rattle.words.specs.Runs.{words_sets}
use Rattle.words.proofs.Parts.{back_part}
use Rattle.words.proofs.copy_words.Goals as goal

pub returns : goal.returns
returns c =
    let a = c.args in
    let b = c.requires in
    let run = a.run.now in
    rw c.copy.ensures (
    ap words (back_part (4 * a.at) (4 * a.at + length run) a.s.now run (omega arith) b.0 (omega arith)) ∙ words_sets a.s.now run a.at b.1 b.0
    )
