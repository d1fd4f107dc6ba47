use Rattle.words.specs.Words.{words}
use Rattle.trials.specs.JudgingLaws.{ready_after, sets_after}
use Rattle.trials.proofs.by_axioms.verdict.Goals as goal

pub axioms_verdict-requires : goal.axioms_verdict-requires
axioms_verdict-requires c =
    let q = c.concept_sets in
    let R = c.requires in
    sets_after c.args.store.now c.args.scratch.now q.new.scratch c.args.t R q.auto.scratch q.ensures.kept_to q.ensures.kept_in (q.ensures.concept_sets R.known R.meant R.ready R.fits)

pub returns : goal.returns
returns c = λ d I R F.
    let a = c.args in
    let q = c.concept_sets in
    c.axioms_verdict.ensures d I (ready_after d I (words a.store.now) a.scratch.now q.new.scratch R q.auto.scratch q.ensures.kept_to q.ensures.kept_in) (q.ensures.concept_sets d I R F) F
