use mathlib.Core.Path.{sym, ap, subst, ◌∙◌}
use mathlib.Core.List.{◌++◌}
use native.Mathlib.Omega.{arith}
use Rattle.words.specs.Words.{words}
use Rattle.words.specs.Laws.{length_words}
use Rattle.tables.specs.Drawn.{padded}
use Rattle.states.specs.Test.{verdict_words}
use Rattle.sets.specs.Verdicts.{verdict_in}
use Rattle.trials.specs.Stored.{front_words, Shows}
use Rattle.trials.specs.StoredLaws.{front_broken, front_holds}
use Rattle.trials.proofs.report.put_verdict.Goals as goal

pub returns-in-Ok : goal.returns-in-Ok
returns-in-Ok c = λ l h e.
    let a = c.args in
    e ∙ front_holds l h ∙ ap (λ x. padded front_words (l ++ verdict_words (verdict_in (words a.scratch.now) x))) (sym c.in-Ok.is)

pub returns-in-Err : goal.returns-in-Err
returns-in-Err c = λ l h e.
    let a = c.args in
    let q = c.put_broken in
    let w = words a.scratch.now in
    q.ensures ∙ front_broken w (words a.front.now) l c.in-Err.b e h (subst Shows c.in-Err.is c.requires.1) (omega (arith, length_words a.scratch.now, c.requires.2))
    ∙ ap (λ x. padded front_words (l ++ verdict_words (verdict_in w x))) (sym c.in-Err.is)
