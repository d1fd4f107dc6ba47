use Rattle.inclusions.specs.HeadLaws.{soft_one, soft_many}
use Rattle.inclusions.proofs.parts.soft_and.Goals as goal

pub returns-then-soft-eq1 : goal.returns-then-soft-eq1
returns-then-soft-eq1 c = soft_one c.args.k.now c.args.scratch.now c.requires.0 c.requires.1 c.requires.3 c.args.soft c.requires.2 c.requires.4 c.if-soft-eq1.true _ c.get_word.ensures

pub returns : goal.returns
returns c = soft_many c.args.k.now c.args.scratch.now c.requires.0 c.requires.1 c.requires.3 c.args.soft c.requires.2 c.requires.4 c.if-soft-eq1.false _ _ c.mk_and.auto.scratch c.mk_and.ensures.interned c.mk_and.ensures.beside
