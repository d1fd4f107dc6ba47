use Prim.Native.Nat.{◌-◌}
use lib.ListN.{length}
use Rattle.deck.proofs.LineLaws.{Going}
use Rattle.deck.proofs.read_lines.Given as goal

abbrev pub invariant-loop-begin : goal.invariant-loop-begin
invariant-loop-begin l = Going l.deck l.initial.t l.t l.st l.begin l.line

abbrev pub decreases-loop-begin : goal.decreases-loop-begin
decreases-loop-begin l = length l.deck - l.begin
