use Rattle.std.proofs.Common.{sym}
use Rattle.std.proofs.lemmas.List.{get_or_past}
use native.Mathlib.Omega.{arith}
use Rattle.words.specs.Words.{words}
use Rattle.words.specs.Laws.{length_words}
use Rattle.words.proofs.word_or_zero.Goals as goal

pub returns-else-i-s : goal.returns-else-i-s
returns-else-i-s c =
    let n = length_words c.args.s.now in
    let h = c.if-i-s.false in
    sym (get_or_past (words c.args.s.now) c.args.i 0 (omega (arith, n, h)))
