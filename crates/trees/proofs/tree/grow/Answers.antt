use mathlib.Core.Bool.{true, false}
use mathlib.Core.Path.{refl, ◌∙◌}
use Rattle.words.specs.Words.{words}
use Rattle.trees.specs.GrowLaws.{rising_start, rising_next, rising_less, rising_end}
use Rattle.trees.proofs.tree.grow.Goals as goal

pub loop-m-init : goal.loop-m-init
loop-m-init c = (refl, refl, rising_start (words c.args.scratch.now) c.args.placed.now c.args.atoms.base c.args.atoms.count c.requires.1)

pub loop-m-smaller : goal.loop-m-smaller
loop-m-smaller c = let L = c.loop-m in let r = c.round in
    rising_less (words c.args.scratch.now) c.args.atoms.base c.args.atoms.count (words L.scratch) L.placed L.n true L.invariant.2 refl c.requires.0 c.in-Some.m true (words r.new.scratch) r.new.placed c.in-Some.ensures refl

pub loop-m-preserved : goal.loop-m-preserved
loop-m-preserved c = let L = c.loop-m in let r = c.round in
    (r.auto.scratch ∙ L.invariant.0, r.auto.placed ∙ L.invariant.1, rising_next (words c.args.scratch.now) c.args.atoms.base c.args.atoms.count (words L.scratch) L.placed L.n true L.invariant.2 refl c.requires.0 c.in-Some.m true (words r.new.scratch) r.new.placed c.in-Some.ensures)

pub returns : goal.returns
returns c = let L = c.loop-m in let r = c.round in
    rising_end (words c.args.scratch.now) c.args.atoms.base c.args.atoms.count (words r.new.scratch) r.new.placed L.n false
    (rising_next (words c.args.scratch.now) c.args.atoms.base c.args.atoms.count (words L.scratch) L.placed L.n true L.invariant.2 refl c.requires.0 L.n false (words r.new.scratch) r.new.placed c.in_default.ensures) refl c.requires.3
