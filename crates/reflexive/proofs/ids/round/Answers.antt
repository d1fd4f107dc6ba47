use Rattle.words.specs.Words.{words}
use Rattle.reflexive.specs.Steps.{axioms_edges}
use Rattle.reflexive.specs.WalkLaws.{walk_ready, round_first, walk_building, round_turn}
use Rattle.reflexive.proofs.ids.round.Goals as goal

pub loop-i-init : goal.loop-i-init
loop-i-init c = round_first c.args.scratch.now c.args.n c.args.size c.requires.0

pub edges_of-s-requires : goal.edges_of-s-requires
edges_of-s-requires c =
    let L = c.loop-i in
    (walk_ready c.args.scratch.now L.scratch c.args.size L.s L.i c.args.n (axioms_edges (words c.args.scratch.now)) c.requires.0 L.invariant, record { count = c.args.n; building = walk_building c.args.scratch.now L.scratch c.args.size L.s L.i c.args.n (axioms_edges (words c.args.scratch.now)) c.requires.1 L.invariant; below = c.loop-i-test.true })

pub loop-i-preserved : goal.loop-i-preserved
loop-i-preserved c =
    let L = c.loop-i in
    let x = c.edges_of-s in
    round_turn c.args.scratch.now L.scratch _ c.args.size L.s _ L.i c.args.n L.invariant c.requires.1 c.loop-i-test.true x.ensures x.auto.scratch
