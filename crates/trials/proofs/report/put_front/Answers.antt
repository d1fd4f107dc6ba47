use mathlib.Core.Path.{refl, ◌∙◌}
use native.Mathlib.Omega.{arith}
use Rattle.clausify.specs.Answer.{ten_of}
use Rattle.trials.specs.StoredLaws.{front_zeros}
use Rattle.trials.proofs.report.put_front.Goals as goal

pub returns : goal.returns
returns c =
    let a = c.args in
    let ten = ten_of a.n.stats a.n.fresh_ids a.n.visits in
    c.put_verdict.ensures ten refl (c.put_ten.ensures ∙ front_zeros a.front.now ten c.requires.0 c.requires.1 (omega arith))
