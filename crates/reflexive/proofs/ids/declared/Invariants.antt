use Rattle.words.specs.Words.{words}
use Rattle.inverse.specs.Layout.{Building}
use Rattle.reflexive.specs.Steps.{declared_ids, Ready, Walk}
use Rattle.reflexive.proofs.ids.declared.Given as goal

abbrev pub invariant-loop-i : goal.invariant-loop-i
invariant-loop-i l = Walk l.initial.scratch l.scratch 0 l.size l.i l.n (declared_ids (words l.initial.scratch)) × Ready l.initial.scratch 0 × Building l.initial.scratch l.n
