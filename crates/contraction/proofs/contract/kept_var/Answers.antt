use borrow.Author.Tests.{eq-eqb, ne_eqb}
use Rattle.contraction.proofs.contract.kept_var.Goals as goal

pub returns-then-tgt-eq0 : goal.returns-then-tgt-eq0
returns-then-tgt-eq0 c = rw (eq-eqb _ _ c.if-tgt-eq0.true)

pub returns-else-tgt-eq0 : goal.returns-else-tgt-eq0
returns-else-tgt-eq0 c = rw (ne_eqb _ _ c.if-tgt-eq0.false)
