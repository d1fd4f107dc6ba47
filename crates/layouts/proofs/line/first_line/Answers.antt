use mathlib.Core.Path.{refl}
use lib.ListN.{drop}
use Rattle.words.specs.Words.{words}
use Rattle.layouts.specs.Lines.{line_in}
use Rattle.layouts.proofs.Reading.{first_bad, first_none, first_read}
use Rattle.layouts.proofs.line.first_line.Goals as goal

pub returns-in_err-count-clause-first_as : goal.returns-in_err-count-clause-first_as
returns-in_err-count-clause-first_as c = rw c.from_residual.ensures (first_none c.args.text.now _ refl c.in_err-count.ensures.numbers_as)

pub returns-then-not-count_ok-clause-first_as : goal.returns-then-not-count_ok-clause-first_as
returns-then-not-count_ok-clause-first_as c =
    let n = c.in_ok-count.field-0 in
    first_bad c.args.text.now (line_in (words c.read_numbers.new.scratch) n.count) (drop n.behind c.args.text.now) c.in_ok-count.ensures.numbers_as.read c.if-not-count_ok.ensures

pub returns-clause-first_as : goal.returns-clause-first_as
returns-clause-first_as c =
    let n = c.in_ok-count.field-0 in
    let R = c.in_ok-count.ensures.numbers_as in
    first_read c.args.text.now (line_in (words c.read_numbers.new.scratch) n.count) c.number.result n.behind R.read c.if-not-count_ok.ensures c.number.ensures R.within
