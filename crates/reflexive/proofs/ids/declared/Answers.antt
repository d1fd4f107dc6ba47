use mathlib.Core.Path.{sym, ◌∙◌}
use native.Mathlib.Omega.{arith}
use Rattle.words.specs.Words.{words}
use Rattle.words.specs.Laws.{length_words}
use Rattle.reflexive.specs.Steps.{declared_ids}
use Rattle.reflexive.specs.FlagLaws.{id_small, begun_empty, walk_at, walk_end}
use Rattle.reflexive.specs.AxiomLaws.{reflexive_small}
use Rattle.reflexive.specs.WalkLaws.{walk_ready, walk_building, declared_first, declared_skip, declared_turn, cleared_building, cleared_ready, declared_end}
use Rattle.reflexive.proofs.ids.declared.Goals as goal
use Rattle.reflexive.proofs.ids.declared.Goals.{then-number-eq-REFLEXIVE, else-number-eq-REFLEXIVE}

pub loop-i-init : goal.loop-i-init
loop-i-init c = let x = c.clear_words in
    let E = begun_empty (words c.args.scratch.now) (words x.new.s) x.ensures (omega (arith, length_words c.args.scratch.now, c.requires.0.space)) in
    let R = cleared_ready c.args.scratch.now x.new.s c.args.n c.requires.0 c.requires.1 E x.auto.s in
    (declared_first x.new.s c.args.n 0 R, R, cleared_building c.args.scratch.now x.new.s c.args.n c.requires.0 c.requires.1 E x.auto.s)

pub canon_id-id-requires : goal.canon_id-id-requires
canon_id-id-requires c =
    let s = c.clear_words.new.s in
    let L = c.loop-i in
    let h = c.loop-i-test.true in
    let A = walk_building s L.scratch 0 L.size L.i c.args.n (declared_ids (words s)) L.invariant.2 L.invariant.0 in
    (reflexive_small L.scratch c.args.n L.i A h (sym c.number.ensures ∙ c.if-number-eq-REFLEXIVE.true) _ c.number-then-number-eq-REFLEXIVE.ensures, omega (arith, A.space))

pub insert-size-requires : goal.insert-size-requires
insert-size-requires c =
    let s = c.clear_words.new.s in
    let L = c.loop-i in
    let h = c.loop-i-test.true in
    let A = walk_building s L.scratch 0 L.size L.i c.args.n (declared_ids (words s)) L.invariant.2 L.invariant.0 in
    let R = walk_ready s L.scratch 0 L.size L.i c.args.n (declared_ids (words s)) L.invariant.1 L.invariant.0 in
    let q = reflexive_small L.scratch c.args.n L.i A h (sym c.number.ensures ∙ c.if-number-eq-REFLEXIVE.true) _ c.number-then-number-eq-REFLEXIVE.ensures in
    (R, id_small (words L.scratch) _ _ R.map q c.canon_id-id.ensures)

pub loop-i-preserved : goal.loop-i-preserved
loop-i-preserved c =
    let s = c.clear_words.new.s in
    let L = c.loop-i in
    let h = c.loop-i-test.true in
    let n = c.number.ensures in (
      elim c.if-number-eq-REFLEXIVE.branch [
        | then-number-eq-REFLEXIVE w ↦ walk_at s _ _ 0 _ _ _ c.args.n (declared_ids (words s)) w.scratch-is w.size-is (declared_turn s L.scratch 0 L.size L.i c.args.n L.invariant.0 L.invariant.2 h (sym n ∙ w.if-number-eq-REFLEXIVE.true) _ _ w.number-then-number-eq-REFLEXIVE.ensures w.canon_id-id.ensures _ _ w.insert-size.ensures w.insert-size.auto.scratch)
        | else-number-eq-REFLEXIVE w ↦ walk_at s _ _ 0 _ _ _ c.args.n (declared_ids (words s)) w.scratch-is w.size-is (declared_skip s L.scratch 0 L.size L.i c.args.n L.invariant.0 L.invariant.2 h _ n w.if-number-eq-REFLEXIVE.false)
      ],
      L.invariant.1,
      L.invariant.2,
    )

pub returns : goal.returns
returns c = let x = c.clear_words in let L = c.loop-i in
    let E = begun_empty (words c.args.scratch.now) (words x.new.s) x.ensures (omega (arith, length_words c.args.scratch.now, c.requires.0.space)) in
    declared_end c.args.scratch.now x.new.s c.args.n c.requires.0 c.requires.1 E x.auto.s (words L.scratch) L.size (walk_end x.new.s L.scratch 0 L.size L.i c.args.n (declared_ids (words x.new.s)) L.invariant.0 c.loop-i-test.false)
