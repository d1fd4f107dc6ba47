use mathlib.Core.Path.{refl}
use Rattle.heads.proofs.limit.wait.Goals as goal

pub returns-then-waits : goal.returns-then-waits
returns-then-waits c = let q = c.waits in rw (← q.ensures, c.if-waits.true) c.append.ensures

pub returns-else-waits : goal.returns-else-waits
returns-else-waits c = let q = c.waits in rw (← q.ensures, c.if-waits.false) refl
