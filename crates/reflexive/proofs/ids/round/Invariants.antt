use Rattle.words.specs.Words.{words}
use Rattle.reflexive.specs.Steps.{axioms_edges, Walk}
use Rattle.reflexive.proofs.ids.round.Given as goal

abbrev pub invariant-loop-i : goal.invariant-loop-i
invariant-loop-i l = Walk l.initial.scratch l.scratch l.size l.s l.i l.n (axioms_edges (words l.initial.scratch))
