use Prim.Native.Nat.{◌-◌}
use lib.ListN.{length}
use Rattle.layouts.proofs.Going.{Going}
use Rattle.layouts.proofs.read_lines.Given as goal

abbrev pub invariant-loop-p : goal.invariant-loop-p
invariant-loop-p l = Going l.text l.initial.store l.initial.scratch l.m l.size l.from l.store l.scratch l.at l.p l.line

abbrev pub decreases-loop-p : goal.decreases-loop-p
decreases-loop-p l = length l.text - l.p
