use mathlib.Core.Path.{ap, ◌∙◌}
use Prim.Native.Nat.{◌+◌}
use lib.ListN.{set}
use Rattle.words.specs.Words.{words}
use Rattle.ir.specs.Scratch.{roles_at}
use native.Mathlib.Omega.{arith}
use Rattle.inverse.specs.BuildLaws.{clearing_next}
use Rattle.inverse.proofs.build.clear_roles.Goals as goal

pub loop-r-preserved : goal.loop-r-preserved
loop-r-preserved c = clearing_next _ _ _ _ c.loop-r.invariant c.loop-r-test.true (omega arith) (c.put_word.ensures ∙ ap (set (words c.loop-r.scratch) (roles_at + c.loop-r.r)) c.code.ensures) c.put_word.auto.s
