use Rattle.clausetests.specs.Fitting.{is_head}
use Rattle.clausetests.proofs.RunLaws.{RunTo}
use Rattle.clausetests.proofs.fitting.narrow_run.Given as goal

abbrev pub invariant-loop-i : goal.invariant-loop-i
invariant-loop-i l = RunTo l.state.text.now l.state.store.now l.initial.scratch l.run l.v (is_head l.side) l.state.size l.n l.scratch l.i
