use native.Mathlib.Omega.{arith}
use mathlib.Core.Path.{sym, ◌∙◌}
use Rattle.words.specs.Words.{words}
use Rattle.pool.proofs.Runs.{hash_next, hash_end}
use Rattle.pool.proofs.index.hash_run.Goals as goal

pub loop-i-preserved : goal.loop-i-preserved
loop-i-preserved c = (omega arith, sym (hash_next (words c.args.scratch.now) c.args.at c.loop-i.i c.args.count c.loop-i.h c.get_word.result c.mix-h.result c.loop-i-test.true c.get_word.ensures c.mix-h.ensures) ∙ c.loop-i.invariant.1)

pub returns : goal.returns
returns c = (sym (hash_end (words c.args.scratch.now) c.args.at c.loop-i.i c.args.count c.loop-i.h c.loop-i-test.false) ∙ c.loop-i.invariant.1, c.loop-i.invariant.0)
