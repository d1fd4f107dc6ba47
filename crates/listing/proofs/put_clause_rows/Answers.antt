use mathlib.Core.Path.{◌∙◌}
use mathlib.Core.List.{[], ◌∷◌, ◌++◌}
use native.Mathlib.Omega.{arith}
use lib.ListN.{length-append}
use Rattle.words.specs.Laws.{length_words}
use Rattle.rows.specs.RowLaws.{length_line}
use Rattle.listing.specs.ListingLaws.{clause_put_lem}
use Rattle.listing.proofs.put_clause_rows.Goals as goal

pub body_count-bodies-requires : goal.body_count-bodies-requires
body_count-bodies-requires c = omega (arith, c.requires.0.is.row, length_words c.args.clauses.now)

pub head_count-heads-requires : goal.head_count-heads-requires
head_count-heads-requires c = omega (arith, c.requires.0.is.row, length_words c.args.clauses.now)

pub atoms_of-requires : goal.atoms_of-requires
atoms_of-requires c = c.requires.0

pub put_atoms-requires : goal.put_atoms-requires
put_atoms-requires c =
    let C = c.requires.0 in
    let x = C.clause in
    let e = length_line (41 ∷ c.args.i ∷ c.body_count-bodies.result ∷ c.head_count-heads.result ∷ []) in
    omega (arith, c.requires.1, e, c.put_line-p.ensures.end, c.put_line-p.auto.out, (c.atoms_of.ensures x C.is).long, length-append x.body x.head, C.is.body, C.is.head)

pub returns : goal.returns
returns c = λ x C.
    clause_put_lem _ x c.body_count-bodies.result c.head_count-heads.result (c.body_count-bodies.ensures ∙ C.body) (c.head_count-heads.ensures ∙ C.head) c.put_line-p.ensures (c.put_atoms.ensures (x.body ++ x.head) (c.atoms_of.ensures x C))
