use Prim.Native.Nat.{◌-◌}
use Rattle.rows.specs.RowLaws.{Written}
use Rattle.rows.proofs.put_digits.Given as goal

abbrev pub invariant-loop-j : goal.invariant-loop-j
invariant-loop-j l = Written l.initial.out l.at l.number l.rest (l.j - 1) l.out
