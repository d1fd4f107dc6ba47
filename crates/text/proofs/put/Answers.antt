use mathlib.Core.Path.{sym}
use lib.Seq.{set_out}
use Rattle.words.specs.Words.{words}
use Rattle.words.specs.Laws.{length_words}
use Rattle.text.proofs.put.Goals as goal

pub returns-else-n-t : goal.returns-else-n-t
returns-else-n-t c =
    let a = c.args in
    sym (set_out (words a.t.now) a.n a.w (rw (length_words a.t.now) c.if-n-t.false))
