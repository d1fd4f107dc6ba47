use Rattle.clausetests.specs.Fitting.{is_head}
use Rattle.clausetests.proofs.RowLaws.{Rows}
use Rattle.clausetests.proofs.fitting.narrow_rows.Given as goal

abbrev pub invariant-loop-e : goal.invariant-loop-e
invariant-loop-e l = Rows l.initial.scratch l.a l.at l.free (is_head l.side) l.size l.scratch l.e
