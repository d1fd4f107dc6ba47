use Prim.Native.Nat.{suc, ◌-◌}
use lib.ListN.{length, drop}
use Rattle.states.specs.ScanLaws.{scan_by}
use Rattle.clausetests.specs.ScanCode.{Left}
use Rattle.clausetests.proofs.class.scan_lines.Given as goal

abbrev pub invariant-loop-p : goal.invariant-loop-p
invariant-loop-p l = Left l.state.text.now l.c l.p (scan_by (suc (length (drop l.from l.state.text.now))) (drop l.from l.state.text.now) l.c)

abbrev pub decreases-loop-p : goal.decreases-loop-p
decreases-loop-p l = length l.state.text.now - l.p
