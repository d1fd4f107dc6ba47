use mathlib.Core.Path.{ap, ◌∙◌}
use Rattle.words.specs.Words.{words}
use Rattle.reflexive.specs.Steps.{id_at, edges_to}
use Rattle.reflexive.specs.FlagLaws.{walk_at}
use Rattle.reflexive.specs.WalkLaws.{from_first, from_turn, from_skip}
use Rattle.reflexive.proofs.ids.edges_from.Goals as goal
use Rattle.reflexive.proofs.ids.edges_from.Goals.{then-a-b, else-a-b}

pub loop-j-init : goal.loop-j-init
loop-j-init c = from_first c.args.scratch.now c.args.a c.args.at c.args.count c.args.size c.requires.0

pub loop-j-preserved : goal.loop-j-preserved
loop-j-preserved c =
    let L = c.loop-j in
    let h = c.loop-j-test.true in
    let e = c.canon_id-b.ensures ∙ ap (id_at (words L.scratch)) c.get_word.ensures in
    let f = edges_to (words c.args.scratch.now) c.args.a c.args.at in
    elim c.if-a-b.branch [
      | then-a-b w ↦ walk_at c.args.scratch.now _ _ c.args.size _ _ _ c.args.count f w.scratch-is w.s-is (from_turn c.args.scratch.now L.scratch c.args.a _ c.args.at c.args.size L.s L.j c.args.count L.invariant c.requires.2 h e w.if-a-b.true _ _ w.along-s.ensures w.along-s.auto.scratch)
      | else-a-b w ↦ walk_at c.args.scratch.now _ _ c.args.size _ _ _ c.args.count f w.scratch-is w.s-is (from_skip c.args.scratch.now L.scratch c.args.a _ c.args.at c.args.size L.s L.j c.args.count L.invariant c.requires.2 h e w.if-a-b.false)
    ]
