use mathlib.Core.Path.{refl, sym}
use lib.ListN.{drop}
use Rattle.words.specs.Words.{words}
use Rattle.layouts.specs.Lines.{line_in}
use Rattle.layouts.proofs.Reading.{next_bad, next_none, next_good}
use Rattle.layouts.proofs.line.next_line.Goals as goal

pub returns-in_err-next-clause-next_as : goal.returns-in_err-next-clause-next_as
returns-in_err-next-clause-next_as c = rw c.from_residual.ensures (next_none c.args.m c.args.at.kind c.args.at.id c.args.size c.args.text.now c.args.p c.requires.1 _ refl c.in_err-next.ensures.numbers_as)

pub returns-then-not-line_ok-clause-next_as : goal.returns-then-not-line_ok-clause-next_as
returns-then-not-line_ok-clause-next_as c =
    let n = c.in_ok-next.next in
    next_bad c.args.m c.args.at.kind c.args.at.id c.args.size c.args.text.now c.args.p (line_in (words c.read_numbers.new.scratch) n.count) (drop n.behind c.args.text.now) c.in_ok-next.ensures.numbers_as.read c.if-not-line_ok.ensures

pub returns-clause-next_as : goal.returns-clause-next_as
returns-clause-next_as c =
    let n = c.in_ok-next.next in
    next_good c.args.m c.args.at.kind c.args.at.id c.args.size c.args.text.now c.args.p (words c.args.scratch.now) (words c.read_numbers.new.scratch) n.count n.behind c.in_ok-next.ensures.numbers_as (sym c.if-not-line_ok.ensures)
