use Rattle.std.proofs.Common.{refl, ◌∙◌, arith, length-set, rules}
use Rattle.std.proofs.Math.Seq.{get_or-set_other}
use Rattle.words.specs.Words.{words}
use Rattle.clausetests.proofs.SearchLaws.{fits_next}
use Rattle.clausetests.proofs.search.narrowed.Goals as goal

pub overflow_step-i : goal.overflow_step-i
overflow_step-i c = record { fits = omega arith }

pub loop-i-init : goal.loop-i-init
loop-i-init c = (search rules, λ q h. refl, λ n two F h T S q a b. absurd (omega arith))

pub loop-i-preserved : goal.loop-i-preserved
loop-i-preserved c =
    let L = c.loop-i in
    let a = c.args in (
      length-set L.fits L.i c.both.result ∙ L.invariant.0,
      λ q h. get_or-set_other L.fits L.i q c.both.result 0 (λ z. absurd (omega arith)) ∙ L.invariant.1 q (omega arith),
      λ n two F h T S. fits_next n a.end two F (words a.scratch.now) a.j a.x h T a.fits S L.i L.fits c.row.result c.both.result (omega arith) c.loop-i-test.true (omega (arith, L.invariant.0)) L.invariant.1 c.row.ensures c.both.ensures (L.invariant.2 n two F h T S),
    )

pub returns : goal.returns
returns c = λ n two F h T S i a b. c.loop-i.invariant.2 n two F h T S i a (omega arith)
