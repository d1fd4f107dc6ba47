use Rattle.words.specs.Words.{words}
use Rattle.rows.specs.Rows.{texts_of, texts_left}
use Rattle.rows.specs.RowLaws.{Left}
use Rattle.clauses.proofs.LineLaws.{deferral_text}
use Rattle.clauses.proofs.lines.put_deferrals.Given as goal

abbrev pub invariant-loop-i : goal.invariant-loop-i
invariant-loop-i l = Left l.initial.out l.at (texts_of (deferral_text (words l.deferrals)) 0 l.n) l.out l.p (texts_left (deferral_text (words l.deferrals)) l.i l.n)
