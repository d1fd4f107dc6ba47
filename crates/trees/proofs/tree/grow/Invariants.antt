use Prim.Native.Nat.{◌-◌}
use mathlib.Core.Bool.{true}
use mathlib.Core.Path.{◌≡◌}
use lib.ListN.{length, take}
use Rattle.words.specs.Words.{words}
use Rattle.trees.specs.Growth.{trues}
use Rattle.trees.specs.GrowLaws.{Rising}
use Rattle.trees.proofs.tree.grow.Given as goal

abbrev pub invariant-loop-m : goal.invariant-loop-m
invariant-loop-m l = (length l.scratch ≡ length l.initial.scratch) × (length l.placed ≡ length l.initial.placed) × Rising (words l.initial.scratch) l.fn.atoms.base l.fn.atoms.count (words l.scratch) l.placed l.n true

abbrev pub decreases-loop-m : goal.decreases-loop-m
decreases-loop-m l = l.fn.atoms.count - trues (take l.fn.atoms.count l.placed)
