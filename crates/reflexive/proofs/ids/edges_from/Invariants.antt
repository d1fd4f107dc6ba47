use Rattle.words.specs.Words.{words}
use Rattle.reflexive.specs.Steps.{edges_to, Walk}
use Rattle.reflexive.proofs.ids.edges_from.Given as goal

abbrev pub invariant-loop-j : goal.invariant-loop-j
invariant-loop-j l = Walk l.initial.scratch l.scratch l.size l.s l.j l.count (edges_to (words l.initial.scratch) l.a l.at)
