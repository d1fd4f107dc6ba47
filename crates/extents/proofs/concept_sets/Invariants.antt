use Rattle.extents.proofs.SetsLaws.{SetsTo}
use Rattle.extents.proofs.concept_sets.Given as goal

abbrev pub invariant-loop-c : goal.invariant-loop-c
invariant-loop-c l = SetsTo l.store l.initial.scratch l.scratch l.t l.c
