use Rattle.words.specs.Words.{words}
use Rattle.branches.specs.Layout.{renumbered_at}
use Rattle.branches.specs.Found.{Searching}
use Rattle.branches.proofs.memo.scan.Given as goal

abbrev pub invariant-loop-i : goal.invariant-loop-i
invariant-loop-i l = Searching renumbered_at (words l.scratch) l.fn.s l.count l.p l.i
