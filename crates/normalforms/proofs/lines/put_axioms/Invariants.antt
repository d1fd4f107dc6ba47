use Rattle.words.specs.Words.{words}
use Rattle.ontology.specs.Layout.{axioms_of}
use Rattle.rows.specs.RowLaws.{Left}
use Rattle.normalforms.specs.Forms.{axioms_text}
use Rattle.normalforms.proofs.LineLaws.{axioms_left}
use Rattle.normalforms.proofs.lines.put_axioms.Given as goal

abbrev pub invariant-loop-i : goal.invariant-loop-i
invariant-loop-i l = Left l.initial.out l.at (axioms_text (axioms_of (words l.scratch) l.n)) l.out l.p (axioms_left (words l.scratch) l.i l.n)
