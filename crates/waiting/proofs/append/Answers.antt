use Rattle.words.specs.Words.{words}
use mathlib.Core.Path.{refl}
use Rattle.waiting.specs.LimitLaws.{appended_is, appended_not}
use Rattle.waiting.proofs.append.Goals as goal

pub returns-then-n-lt-MOST : goal.returns-then-n-lt-MOST
returns-then-n-lt-MOST c =
    let a = c.args in
    appended_is (words a.scratch.now) a.filler a.name _ _ _ _ c.get_word-n.ensures c.if-n-lt-MOST.true refl c.put_words.ensures c.put_word.ensures

pub returns-else-n-lt-MOST : goal.returns-else-n-lt-MOST
returns-else-n-lt-MOST c = appended_not _ _ _ _ c.get_word-n.ensures c.if-n-lt-MOST.false
