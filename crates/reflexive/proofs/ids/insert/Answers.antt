use native.Mathlib.Omega.{arith}
use Rattle.words.specs.Words.{words}
use Rattle.words.specs.Laws.{length_words}
use Rattle.rules.specs.Deck.{most_roles}
use Rattle.reflexive.specs.FlagLaws.{flagged_most, insert_new}
use Rattle.reflexive.proofs.ids.insert.Goals as goal

pub overflow_add-result : goal.overflow_add-result
overflow_add-result c = omega (arith, c.requires.0.sized, flagged_most (words c.args.scratch.now) most_roles)

pub returns : goal.returns
returns c =
    insert_new (words c.args.scratch.now) c.args.id _ _ c.requires.1 c.get_word.ensures c.requires.0.sized c.if-get_word-ne0.false _ c.put_word.ensures (omega (arith, length_words c.args.scratch.now, c.requires.0.space))
