use mathlib.Core.Path.{◌∙◌}
use native.Mathlib.Omega.{arith}
use Rattle.words.specs.Laws.{length_words}
use Rattle.words.specs.Words.{words}
use Rattle.clausetests.specs.SetLaws.{class_kept, class_found}
use Rattle.clausetests.proofs.class.class_set.Goals as goal

pub returns-then-i-state : goal.returns-then-i-state
returns-then-i-state c =
    let a = c.args in
    λ I roles v G. c.get_set.ensures ∙ class_kept I roles a.state.now.size a.state.now.text.now (words a.state.now.store.now) v G a.c (omega (arith, c.if-i-state.true, length_words a.state.now.store.now))

pub returns : goal.returns
returns c =
    let a = c.args in
    λ I roles v G. c.scan.ensures ∙ class_found I roles a.state.now.size a.state.now.text.now (words a.state.now.store.now) v G a.c (omega (arith, c.if-i-state.false, length_words a.state.now.store.now))
