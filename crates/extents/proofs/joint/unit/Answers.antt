use mathlib.Core.Path.{sym}
use Rattle.states.specs.MaskLaws.{mask_empty}
use Rattle.extents.proofs.joint.unit.Goals as goal

pub returns-in-And : goal.returns-in-And
returns-in-And c = rw c.in-And.is c.whole.ensures

pub returns-in-Or : goal.returns-in-Or
returns-in-Or c = rw c.in-Or.is (sym (mask_empty c.args.n))
