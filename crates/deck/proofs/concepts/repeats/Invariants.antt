use Rattle.deck.specs.Rows.{link_word}
use Rattle.deck.proofs.ConceptLaws.{Searching}
use Rattle.deck.proofs.concepts.repeats.Given as goal

abbrev pub invariant-loop-next : goal.invariant-loop-next
invariant-loop-next l = Searching l.line.row l.t l.line.kind l.concepts l.next

abbrev pub decreases-loop-next : goal.decreases-loop-next
decreases-loop-next l = link_word l.next
