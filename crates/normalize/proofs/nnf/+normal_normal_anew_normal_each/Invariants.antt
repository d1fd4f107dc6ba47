use Prim.Native.Nat.{◌+◌, ◌*◌}
use Rattle.normalize.proofs.Turns.{Turn}
use Rattle.normalize.proofs.nnf.+normal_normal_anew_normal_each.Given as goal

abbrev pub decreases-normal : goal.decreases-normal
decreases-normal l = l.c * 3 + 2

abbrev pub decreases-normal_anew : goal.decreases-normal_anew
decreases-normal_anew l = l.c * 3 + 1

abbrev pub decreases-normal_each : goal.decreases-normal_each
decreases-normal_each l = l.c * 3

abbrev pub invariant-normal_each-loop-i : goal.invariant-normal_each-loop-i
invariant-normal_each-loop-i l = Turn l.initial.scratch l.initial.k l.at l.n l.top l.c l.negated l.memo l.scratch l.k l.i
