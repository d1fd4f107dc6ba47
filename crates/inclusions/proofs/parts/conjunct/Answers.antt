use native.Mathlib.Omega.{arith}
use Rattle.words.specs.Words.{words}
use Rattle.inclusions.specs.Conjuncts.{member_less, conjunct_and, conjunct_self}
use Rattle.inclusions.proofs.parts.conjunct.Goals as goal

pub overflow_add-child : goal.overflow_add-child
overflow_add-child c = omega (arith, member_less (words c.args.scratch.now) c.args.c _ c.kind.ensures c.args.i c.child.result c.if-kind-eq-AND.true c.child.ensures c.requires.2)

pub member-requires : goal.member-requires
member-requires c = (member_less (words c.args.scratch.now) c.args.c _ c.kind.ensures c.args.i c.child.result c.if-kind-eq-AND.true c.child.ensures c.requires.2, c.requires.1)

pub returns-then-kind-eq-AND : goal.returns-then-kind-eq-AND
returns-then-kind-eq-AND c = conjunct_and (words c.args.scratch.now) c.args.c _ c.kind.ensures c.args.i c.child.result _ c.if-kind-eq-AND.true c.child.ensures c.member.ensures

pub returns : goal.returns
returns c = conjunct_self (words c.args.scratch.now) c.args.c _ c.kind.ensures c.args.i c.if-kind-eq-AND.false
