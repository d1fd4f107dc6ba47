use native.Mathlib.Omega.{arith}
use Rattle.words.specs.Words.{words}
use Rattle.extents.proofs.ThereLaws.{concept_there}
use Rattle.extents.proofs.concept_set.Goals as goal

pub composed_set-requires : goal.composed_set-requires
composed_set-requires c =
    let a = c.args in
    (concept_there a.store.now a.scratch.now a.t a.c c.requires.0 c.requires.1, omega (arith, c.if-kind-lt-SELF.false, c.kind-kind.ensures), omega (arith, c.if-kind-lt-SOME.true, c.kind-kind.ensures))

pub returns-then-kind-lt-SOME : goal.returns-then-kind-lt-SOME
returns-then-kind-lt-SOME c = c.composed_set.ensures (words c.args.store.now)

pub filled_set-requires : goal.filled_set-requires
filled_set-requires c =
    let a = c.args in
    (concept_there a.store.now a.scratch.now a.t a.c c.requires.0 c.requires.1, omega (arith, c.if-kind-lt-SOME.false, c.kind-kind.ensures))

pub returns : goal.returns
returns c = c.filled_set.ensures (words c.args.store.now)
