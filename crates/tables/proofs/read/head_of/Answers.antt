use native.Mathlib.Omega.{arith}
use Rattle.words.specs.Laws.{length_words}
use Rattle.tables.specs.ClauseLaws.{head_in_lem, head_run}
use Rattle.tables.proofs.read.head_of.Goals as goal

pub first_atom-first-requires : goal.first_atom-first-requires
first_atom-first-requires c = omega (arith, c.requires.is.row, length_words c.args.clauses.now)

pub body_count-n-requires : goal.body_count-n-requires
body_count-n-requires c = omega (arith, c.requires.is.row, length_words c.args.clauses.now)

pub head_count-m-requires : goal.head_count-m-requires
head_count-m-requires c = omega (arith, c.requires.is.row, length_words c.args.clauses.now)

pub part-requires : goal.part-requires
part-requires c =
    omega (arith, head_in_lem c.args.clauses.now c.args.atoms.now c.args.i c.requires.clause c.requires.is _ _ c.first_atom-first.ensures c.body_count-n.ensures _ c.head_count-m.ensures)

pub returns : goal.returns
returns c =
    λ x C. rw c.part.ensures (head_run c.args.clauses.now c.args.atoms.now c.args.i x C _ _ c.first_atom-first.ensures c.body_count-n.ensures _ c.head_count-m.ensures)
