use Prim.Native.Nat.{◌≤◌}
use Rattle.cases.proofs.forms.count.Given as goal

abbrev pub invariant-loop-c : goal.invariant-loop-c
invariant-loop-c l = l.sum ≤ l.c
