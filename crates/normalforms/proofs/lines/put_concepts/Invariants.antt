use Rattle.words.specs.Words.{words}
use Rattle.pool.specs.Layout.{pool_of}
use Rattle.rows.specs.RowLaws.{Left}
use Rattle.normalforms.specs.Forms.{concepts_text}
use Rattle.normalforms.proofs.LineLaws.{concepts_left}
use Rattle.normalforms.proofs.lines.put_concepts.Given as goal

abbrev pub invariant-loop-c : goal.invariant-loop-c
invariant-loop-c l = Left l.initial.out l.at (concepts_text (pool_of (words l.scratch) l.k.concepts)) l.out l.p (concepts_left (words l.scratch) l.c l.k.concepts)
