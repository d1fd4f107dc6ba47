use mathlib.Core.Path.{◌≡◌}
use lib.ListN.{length}
use Rattle.words.specs.Words.{words}
use Rattle.contraction.specs.Contracting.{PutAt}
use Rattle.contraction.proofs.contract.put_substituted.Given as goal

abbrev pub invariant-loop-i : goal.invariant-loop-i
invariant-loop-i l = PutAt l.run l.to l.drop l.keep (words l.initial.scratch) (words l.scratch) l.i × (length l.scratch ≡ length l.initial.scratch)
