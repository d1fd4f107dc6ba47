use borrow.Author.Tests.{ne_eqb}
use Rattle.branches.specs.SameLaws.{same_short}
use Rattle.branches.proofs.memo.is_body.Goals as goal

pub returns-else-n-count : goal.returns-else-n-count
returns-else-n-count c = λ l m e f p q. rw (ne_eqb c.args.n c.args.count c.if-n-count.false) (same_short l m c.args.n c.args.count e f c.if-n-count.false)
