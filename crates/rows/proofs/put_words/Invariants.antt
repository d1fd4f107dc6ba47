use lib.ListN.{take, drop}
use Rattle.words.specs.Words.{words}
use Rattle.rows.specs.Rows.{columns_text, Put}
use Rattle.rows.proofs.put_words.Given as goal

abbrev pub invariant-loop-i : goal.invariant-loop-i
invariant-loop-i l = Put l.initial.out l.at (columns_text (take l.i (drop l.from (words l.t)))) l.out l.p
