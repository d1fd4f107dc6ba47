use Rattle.inverse.specs.BuildLaws.{Clearing}
use Rattle.inverse.proofs.build.clear_roles.Given as goal

abbrev pub invariant-loop-r : goal.invariant-loop-r
invariant-loop-r l = Clearing l.initial.scratch l.scratch l.r
