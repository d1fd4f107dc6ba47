use mathlib.Core.Path.{ap, ◌∙◌}
use Rattle.words.specs.Words.{words}
use Rattle.reflexive.specs.Steps.{id_at}
use Rattle.reflexive.specs.WalkLaws.{among_first, among_turn}
use Rattle.reflexive.proofs.ids.edges_among.Goals as goal

pub loop-i-init : goal.loop-i-init
loop-i-init c = among_first c.args.scratch.now c.args.at c.args.count c.args.size c.requires.0

pub loop-i-preserved : goal.loop-i-preserved
loop-i-preserved c =
    let L = c.loop-i in
    let x = c.edges_from-s in
    among_turn c.args.scratch.now L.scratch _ _ c.args.at c.args.size L.s _ L.i c.args.count L.invariant c.requires.1 c.loop-i-test.true (c.canon_id-a.ensures ∙ ap (id_at (words L.scratch)) c.get_word.ensures) x.ensures x.auto.scratch
