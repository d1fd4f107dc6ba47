use mathlib.Core.Path.{◌∙◌}
use Rattle.words.specs.Words.{words}
use Rattle.layouts.proofs.NumberLaws.{line_number}
use Rattle.layouts.proofs.numbers.Numbers.number.Goals as goal

pub returns : goal.returns
returns c = let r = c.args.self.now in c.get_word.ensures ∙ line_number (words r.scratch.now) r.count c.args.k c.requires
