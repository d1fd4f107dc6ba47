use Rattle.pool.specs.Layout.{concept_from}
use Rattle.pool.proofs.make.mk_bot.Goals as goal

pub returns : goal.returns
unfolding concept_from
returns c = c.intern_bare.ensures
