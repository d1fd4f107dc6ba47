use Prim.Native.Nat.{◌+◌, ◌*◌}
use Rattle.words.specs.Words.{words}
use Rattle.ir.specs.Scratch.{alternatives_at}
use Rattle.antecedents.proofs.Rows.{sets_row}
use Rattle.antecedents.proofs.table.put_row.Goals as goal

pub returns : goal.returns
returns c =
    let s = c.args in
    sets_row (words s.scratch.now) _ _ (alternatives_at + 2 * s.c) s.r.size s.r.vars c.put_word.ensures c.put_word-2.ensures
