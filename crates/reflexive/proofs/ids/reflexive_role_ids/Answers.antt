use native.Mathlib.Omega.{arith}
use Rattle.words.specs.Words.{words}
use Rattle.rules.specs.Deck.{most_roles}
use Rattle.reflexive.specs.FlagLaws.{map_kept, flagged_most}
use Rattle.inverse.specs.AxiomLaws.{building_kept}
use Rattle.reflexive.specs.AxiomLaws.{flags_axioms}
use Rattle.reflexive.specs.RoundLaws.{closing_first, closing_back, closing_ready, closing_building, closing_next, closing_end}
use Rattle.reflexive.proofs.ids.reflexive_role_ids.Goals as goal

pub loop-size-init : goal.loop-size-init
loop-size-init c = let d = c.declared-size in
    (closing_first c.args.scratch.now d.new.scratch c.args.n _ c.requires.0 d.ensures d.auto.scratch, building_kept c.args.scratch.now d.new.scratch c.args.n c.requires.0 (flags_axioms (words c.args.scratch.now) (words d.new.scratch) d.ensures.only) d.auto.scratch, map_kept (words c.args.scratch.now) (words d.new.scratch) d.ensures.only c.requires.1)

pub round-after-requires : goal.round-after-requires
round-after-requires c =
    let d = c.declared-size in
    let L = c.loop-size in
    (closing_ready d.new.scratch L.scratch c.args.n L.size L.invariant.0 L.invariant.1 L.invariant.2, closing_building d.new.scratch L.scratch c.args.n L.size L.invariant.0 L.invariant.1)

pub loop-size-smaller : goal.loop-size-smaller
loop-size-smaller c = let x = c.round-after in omega (arith, c.if-after-size.false, x.ensures.grows, x.ensures.sized, flagged_most (words x.new.scratch) most_roles)

pub loop-size-preserved : goal.loop-size-preserved
loop-size-preserved c =
    let d = c.declared-size in
    let L = c.loop-size in
    let x = c.round-after in
    (closing_next d.new.scratch L.scratch c.args.n L.size L.invariant.0 L.invariant.1 _ _ x.ensures x.auto.scratch c.if-after-size.false, L.invariant.1, L.invariant.2)

pub returns-clause-flags_held : goal.returns-clause-flags_held
returns-clause-flags_held c =
    let d = c.declared-size in
    let L = c.loop-size in
    let x = c.round-after in
    closing_back c.args.scratch.now d.new.scratch c.args.n _ c.requires.0 d.ensures d.auto.scratch _ _ (closing_end d.new.scratch L.scratch c.args.n L.size L.invariant.0 L.invariant.1 _ _ x.ensures x.auto.scratch c.if-after-size.true)
