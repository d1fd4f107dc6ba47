use Rattle.words.specs.Words.{words}
use Rattle.reflexive.specs.Steps.{edges_across, Walk}
use Rattle.reflexive.proofs.ids.edges_among.Given as goal

abbrev pub invariant-loop-i : goal.invariant-loop-i
invariant-loop-i l = Walk l.initial.scratch l.scratch l.size l.s l.i l.count (edges_across (words l.initial.scratch) l.at l.count)
