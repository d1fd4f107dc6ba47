use Rattle.words.specs.Words.{words}
use Rattle.branches.specs.Layout.{renumbered_at}
use Rattle.branches.specs.FilterLaws.{found_unmarked}
use Rattle.branches.proofs.memo.memo.Goals as goal

pub returns-then-get_word-eq0 : goal.returns-then-get_word-eq0
returns-then-get_word-eq0 c = let g = c.get_word in found_unmarked renumbered_at (words c.args.scratch.now) c.args.s c.args.count c.args.h g.result c.requires.3 g.ensures c.if-get_word-eq0.true
