use Rattle.words.specs.Words.{words}
use Rattle.antecedents.specs.Counts.{is_conj, first_of}
use Rattle.antecedents.proofs.Rows.{Turn}
use Rattle.antecedents.proofs.table.list_row.Given as goal

abbrev pub invariant-loop-i : goal.invariant-loop-i
invariant-loop-i l = Turn (words l.scratch) (is_conj l.joint) l.start l.i-end (first_of (is_conj l.joint)) l.size l.vars l.i
