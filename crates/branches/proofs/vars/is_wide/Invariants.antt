use Rattle.branches.specs.Seen.{Walked}
use Rattle.branches.proofs.vars.is_wide.Given as goal

abbrev pub invariant-loop-i : goal.invariant-loop-i
invariant-loop-i l = Walked l.body l.i-end l.root l.seen l.n l.i
