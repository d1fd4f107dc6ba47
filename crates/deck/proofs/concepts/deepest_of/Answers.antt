use native.Mathlib.Omega.{arith}
use mathlib.Core.Path.{refl, ◌∙◌}
use Prim.Native.Nat.{◌<◌}
use Rattle.words.specs.Words.{words}
use Rattle.deck.specs.Records.{depths_in}
use Rattle.deck.proofs.ConceptLaws.{depth_in_lem, max_pick}
use Rattle.deck.proofs.RowLaws.{each_next, deepest_next, deepest_end}
use Rattle.deck.proofs.concepts.deepest_of.Goals as goal

pub loop-k-init : goal.loop-k-init
loop-k-init c = ((omega arith, c.requires.1), refl)

pub concept_depth-requires : goal.concept_depth-requires
concept_depth-requires c = let q = each_next c.args.row.now c.loop-k.k _ c.loop-k-test.true c.field.ensures (λ x. x < c.args.concepts) c.loop-k.invariant.0.1 in omega (arith, q.0, c.requires.0.room, c.requires.0.few)

pub loop-k-preserved : goal.loop-k-preserved
loop-k-preserved c =
    let q = each_next c.args.row.now c.loop-k.k _ c.loop-k-test.true c.field.ensures (λ x. x < c.args.concepts) c.loop-k.invariant.0.1 in
    let e = depth_in_lem c.args.row.now.deck.now c.args.t.now c.args.concepts c.requires.0 _ q.0 in (
      (omega (arith, c.max-deepest.ensures, c.concept_depth.ensures, c.requires.0.depths _ q.0, c.loop-k.invariant.0.0), q.1),
      deepest_next c.args.row.now c.loop-k.k _ c.loop-k-test.true c.field.ensures (depths_in (words c.args.t.now) c.args.concepts) c.loop-k.deepest _ (c.max-deepest.ensures ∙ max_pick _ _ ∙ rw (c.concept_depth.ensures, e) refl) ∙ c.loop-k.invariant.1,
    )

pub returns : goal.returns
returns c = record {
  value = deepest_end c.args.row.now c.loop-k.k c.loop-k-test.false (depths_in (words c.args.t.now) c.args.concepts) c.loop-k.deepest ∙ c.loop-k.invariant.1;
  upper_bound = c.loop-k.invariant.0.0;
}
