use mathlib.Core.Path.{◌≡◌}
use lib.ListN.{length}
use Rattle.std.proofs.Common.{is_some, unwrap_or}
use Rattle.words.specs.Words.{words}
use Rattle.trees.specs.RoundLaws.{Walking}
use Rattle.trees.proofs.tree.round.Given as goal

abbrev pub invariant-loop-j : goal.invariant-loop-j
invariant-loop-j l = (length l.scratch ≡ length l.initial.scratch) × (length l.placed ≡ length l.initial.placed) × Walking (words l.initial.scratch) l.initial.placed l.fn.atoms.base l.fn.atoms.count l.bound (words l.scratch) l.placed (unwrap_or l.grown l.bound) (is_some l.grown) l.j
