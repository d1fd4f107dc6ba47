use lib.ListN.{take}
use Rattle.rows.specs.Rows.{columns_text, Put}
use Rattle.rows.proofs.put_line.Given as goal

abbrev pub invariant-loop-number : goal.invariant-loop-number
invariant-loop-number l = Put l.initial.out l.at (columns_text (take l.number-index l.numbers)) l.out l.p
