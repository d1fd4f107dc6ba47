use native.Mathlib.Omega.{arith}
use mathlib.Core.Path.{ap, ◌∙◌}
use Prim.Native.Nat.{ℕ, ◌/◌}
use Rattle.words.specs.Words.{words}
use Rattle.words.specs.Laws.{length_words}
use Rattle.branches.specs.Layout.{renumbered_at}
use Rattle.branches.specs.FilterLaws.{hash_next, hash_end}
use Rattle.branches.proofs.filter.hash.Goals as goal

pub loop-i-preserved : goal.loop-i-preserved
loop-i-preserved c = let L = c.loop-i in (omega arith, hash_next (words c.args.scratch.now) renumbered_at c.args.count L.i (omega (arith, c.requires.0, c.requires.1, length_words c.args.scratch.now)) L.h c.get_word-w.result c.loop-i-test.true c.get_word-w.ensures ∙ L.invariant.1)

pub returns : goal.returns
returns c = let L = c.loop-i in (ap (λ (i : ℕ). i / 131072) (hash_end (words c.args.scratch.now) renumbered_at c.args.count L.i (omega (arith, c.requires.0, c.requires.1, length_words c.args.scratch.now)) L.h c.loop-i-test.false ∙ L.invariant.1), omega (arith, L.invariant.0))
