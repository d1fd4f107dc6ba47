use mathlib.Core.Path.{refl, ◌∙◌}
use native.Mathlib.Omega.{arith}
use Rattle.words.specs.Words.{words}
use Rattle.words.specs.Laws.{length_words}
use Rattle.contraction.specs.PlainLaws.{plain_nth}
use Rattle.contraction.specs.ContractLaws.{put_start, put_end, put_next}
use Rattle.contraction.proofs.contract.put_substituted.Goals as goal

pub loop-i-init : goal.loop-i-init
loop-i-init c = (put_start c.args.run.now c.args.to c.args.drop c.args.keep (words c.args.scratch.now), refl)

pub overflow_add-to : goal.overflow_add-to
overflow_add-to c = let L = c.loop-i in omega (arith, c.loop-i-test.true, c.requires.1, L.invariant.1)

pub put_one-requires : goal.put_one-requires
put_one-requires c =
    let L = c.loop-i in
    let h = c.loop-i-test.true in
    (plain_nth c.args.run.now c.requires.0 L.i h, omega (arith, h, c.requires.1, L.invariant.1))

pub loop-i-preserved : goal.loop-i-preserved
loop-i-preserved c =
    let L = c.loop-i in
    let h = c.loop-i-test.true in (
      put_next c.args.run.now c.args.to c.args.drop c.args.keep (words c.args.scratch.now) (words L.scratch) L.i L.invariant.0 h c.requires.0 (omega (arith, h, c.requires.1, L.invariant.1, length_words L.scratch)) _ c.put_one.ensures,
      c.put_one.auto.scratch ∙ L.invariant.1,
    )

pub shape_of-scratch : goal.shape_of-scratch
shape_of-scratch c = c.loop-i.invariant.1

pub returns : goal.returns
returns c =
    let L = c.loop-i in
    record {
      substituted = put_end c.args.run.now c.args.to c.args.drop c.args.keep (words c.args.scratch.now) (words L.scratch) L.i L.invariant.0 c.loop-i-test.false;
      scratch_unchanged = L.invariant.0.frame;
    }
