use mathlib.Core.Path.{◌∙◌, ap}
use Prim.Native.Nat.{ℕ}
use lib.Dec.{eqb}
use Rattle.leaves.specs.ReadLaws.{top_is}
use Rattle.leaves.proofs.read.is_top.Goals as goal

pub returns : goal.returns
returns c = ap (λ (x : ℕ). eqb x 1) c.kind.ensures ∙ top_is c.args.scratch.now c.args.k c.requires.0 c.args.c c.requires.1
