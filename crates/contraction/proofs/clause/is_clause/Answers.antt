use native.Mathlib.Omega.{arith}
use lib.ListN.{length-append}
use Rattle.words.specs.Words.{words}
use Rattle.words.specs.Laws.{length_words}
use Rattle.contraction.specs.PlacedLaws.{run_same}
use Rattle.contraction.specs.Sizes.{size_both}
use Rattle.contraction.proofs.clause.is_clause.Goals as goal

pub same_records-requires : goal.same_records-requires
same_records-requires c =
    let a = c.args in
    let C = c.requires.1 in
    let y = C.clause in
    let e = size_both (words a.clauses.now) a.hand.body a.hand.head a.c c.requires.2 in
    let h = c.requires.0.short in (
      omega (arith, h.0, h.1, c.requires.3),
      omega (arith, (c.atoms_of-run.ensures y C.is).long, length-append y.body y.head, C.is.body, C.is.head, e.0, e.1),
    )

pub returns : goal.returns
returns c =
    let a = c.args in
    let e = size_both (words a.clauses.now) a.hand.body a.hand.head a.c c.requires.2 in
    λ x y X Y. run_same (words a.clauses.now) (words a.atoms.now) a.c y Y (words a.scratch.now) a.hand.body a.hand.head x X c.same_records.result _ (c.atoms_of-run.ensures y Y) c.same_records.ensures (omega (arith, length_words a.scratch.now, c.requires.3)) e.0 e.1
