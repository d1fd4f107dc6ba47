use Rattle.words.specs.Words.{words}
use Rattle.clausetests.specs.SetLaws.{filler_top, filler_class}
use Rattle.clausetests.proofs.atom.filler.Goals as goal

pub returns-in-None : goal.returns-in-None
returns-in-None c =
    let a = c.args in
    λ I roles v G. filler_top I roles a.state.now.size a.state.now.text.now (words a.state.now.store.now) v G a.q c.whole.result c.in-None.is c.whole.ensures

pub returns-in-Some : goal.returns-in-Some
returns-in-Some c =
    let a = c.args in
    λ I roles v G. filler_class I roles a.state.now.size a.state.now.text.now (words a.state.now.store.now) v G a.q c.in-Some.c c.class_set.result c.in-Some.is (c.class_set.ensures I roles v G)
