use Rattle.words.specs.Words.{words}
use Rattle.pool.specs.Layout.{concept_over}
use Rattle.pool.specs.Held.{link_word}
use Rattle.pool.proofs.Chain.{Chasing}
use Rattle.pool.proofs.index.find.Given as goal

abbrev pub invariant-loop-next : goal.invariant-loop-next
invariant-loop-next l = Chasing (words l.scratch) l.k.concepts (concept_over (words l.scratch) l.at l.x) (link_word l.next)

abbrev pub decreases-loop-next : goal.decreases-loop-next
decreases-loop-next l = link_word l.next
