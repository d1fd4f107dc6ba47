use Prim.Native.Nat.{ℕ, ◌<◌}
use Rattle.words.specs.Words.{words}
use Rattle.axiomtests.specs.Lines.{Behind}
use Rattle.axiomtests.proofs.pairs.first_pair.Given as goal

abbrev pub invariant-loop-x : goal.invariant-loop-x
invariant-loop-x l = (y : ℕ) → y < l.x → Behind (words l.scratch) l.t l.line.kind l.line.at l.line.count y 0
