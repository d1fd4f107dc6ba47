use borrow.Author.Tests.{le-leb}
use mathlib.Core.Bool.{true≢false}
use mathlib.Core.Path.{sym, ◌∙◌}
use Rattle.layouts.proofs.NumberLaws.{count_is}
use Rattle.layouts.proofs.check.line_ok.Goals as goal
use Rattle.layouts.proofs.check.line_ok.Goals.{then-follows, else-follows}

pub returns-then-all_below : goal.returns-then-all_below
returns-then-all_below c =
    elim c.if-follows.branch [
      | then-follows w ↦ rw (count_is c.args.line.now, le-leb _ _ c.if-line-lt2.false, ← c.number-k.ensures, ← c.number-i.ensures, ← c.follows.ensures, w.if-follows.true, ← w.all_below.ensures, sym w.value-is ∙ c.if-all_below.true) c.rest_ok.ensures
      | else-follows w ↦ absurd (true≢false (sym c.if-all_below.true ∙ w.value-is ∙ w.if-follows.false))
    ]
