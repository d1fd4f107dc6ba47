use Rattle.words.specs.Words.{words}
use Rattle.inclusions.specs.Conjuncts.{count_and, count_one}
use Rattle.inclusions.proofs.parts.conjunct_count.Goals as goal

pub returns-then-kind-eq-AND : goal.returns-then-kind-eq-AND
returns-then-kind-eq-AND c = count_and (words c.args.scratch.now) c.args.c _ c.kind.ensures _ c.if-kind-eq-AND.true c.number.ensures

pub returns : goal.returns
returns c = count_one (words c.args.scratch.now) c.args.c _ c.kind.ensures c.if-kind-eq-AND.false
