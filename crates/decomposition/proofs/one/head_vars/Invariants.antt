use mathlib.Core.Path.{◌≡◌}
use lib.ListN.{length}
use Rattle.words.specs.Words.{words}
use Rattle.decomposition.specs.HeadVarLaws.{Heading}
use Rattle.decomposition.proofs.one.head_vars.Given as goal

abbrev pub invariant-loop-i : goal.invariant-loop-i
invariant-loop-i l = (length l.scratch ≡ length l.initial.scratch) × Heading l.head (words l.initial.scratch) l.i-end (words l.scratch) l.n l.i
