use mathlib.Core.Path.{refl}
use borrow.Author.Tests.{ne_eqb}
use Rattle.layouts.proofs.NumberLaws.{count_is}
use Rattle.layouts.proofs.check.count_ok.Goals as goal

pub returns-then-line-ne2 : goal.returns-then-line-ne2
returns-then-line-ne2 c = rw (count_is c.args.line.now, ne_eqb _ _ c.if-line-ne2.true) refl
