use mathlib.Core.Path.{refl, ◌∙◌}
use Prim.Native.Nat.{◌+◌, ◌*◌, ◌-◌, ◌≤◌}
use native.Mathlib.Omega.{arith}
use lib.ListN.{length}
use Rattle.words.specs.Words.{words}
use Rattle.words.specs.Laws.{length_words}
use Rattle.sets.specs.Places.{left_at}
use Rattle.axiomtests.specs.Chains.{ChainIn}
use Rattle.axiomtests.proofs.AsideLaws.{aside_trans, aside_left}
use Rattle.axiomtests.proofs.PathLaws.{chained_kept, chain_kept, filled_first, filled_next, filled_end}
use Rattle.axiomtests.proofs.chains.fill_left.Goals as goal

pub whole-requires : goal.whole-requires
whole-requires c = c.requires.0.few

pub row-requires : goal.row-requires
row-requires c = let P = c.requires in (P.0.code, omega (arith, P.1, P.0.few), P.0.space)

pub put_set-requires : goal.put_set-requires
put_set-requires c = let P = c.requires.0 in omega (arith, P.space)

pub loop-k-init : goal.loop-k-init
loop-k-init c =
    let u = words c.args.scratch.now in
    let long : 2 * left_at + 2 ≤ length u = omega (arith, length_words c.args.scratch.now, c.requires.0.space) in
    filled_first u _ c.args.c.size c.args.c c.args.x _ _ _ c.whole.ensures c.row.ensures c.without-set.ensures c.requires.1 long c.put_set.ensures (aside_left u _ 0 _ (omega arith) c.put_set.ensures)

pub part-code-requires : goal.part-code-requires
part-code-requires c =
    let X = c.loop-k in
    let u = words c.args.scratch.now in
    let C : ChainIn X.scratch c.args.c.size c.args.c =
    chain_kept c.args.scratch.now X.scratch c.args.c.size c.args.c (aside_trans u _ (words X.scratch) (aside_left u _ 0 _ (omega arith) c.put_set.ensures) X.invariant.aside) (X.auto.scratch ∙ c.put_set.auto.s) c.requires.0 in
    (C, omega (arith, c.loop-k-test.true))

pub back-set-requires : goal.back-set-requires
back-set-requires c =
    let X = c.loop-k in
    let u = words c.args.scratch.now in
    let C : ChainIn X.scratch c.args.c.size c.args.c =
    chain_kept c.args.scratch.now X.scratch c.args.c.size c.args.c (aside_trans u _ (words X.scratch) (aside_left u _ 0 _ (omega arith) c.put_set.ensures) X.invariant.aside) (X.auto.scratch ∙ c.put_set.auto.s) c.requires.0 in
    (omega (arith, c.part-code.ensures, C.codes (c.args.c.parts - 1 - X.k) (omega (arith, c.loop-k-test.true))), c.requires.0.few, C.space)

pub overflow_add-k : goal.overflow_add-k
overflow_add-k c = record { fits = omega (arith, c.loop-k-test.true, c.requires.0.short) }

pub overflow_cast-k : goal.overflow_cast-k
overflow_cast-k c = record { fits = omega (arith, c.loop-k-test.true, c.requires.0.short) }

pub put_set-requires-in-loop-k : goal.put_set-requires-in-loop-k
put_set-requires-in-loop-k c =
    let X = c.loop-k in
    let u = words c.args.scratch.now in
    let C : ChainIn X.scratch c.args.c.size c.args.c =
    chain_kept c.args.scratch.now X.scratch c.args.c.size c.args.c (aside_trans u _ (words X.scratch) (aside_left u _ 0 _ (omega arith) c.put_set.ensures) X.invariant.aside) (X.auto.scratch ∙ c.put_set.auto.s) c.requires.0 in
    omega (arith, c.loop-k-test.true, c.requires.0.short, C.space)

pub loop-k-preserved : goal.loop-k-preserved
loop-k-preserved c =
    let X = c.loop-k in
    let u = words c.args.scratch.now in
    let C : ChainIn X.scratch c.args.c.size c.args.c =
    chain_kept c.args.scratch.now X.scratch c.args.c.size c.args.c (aside_trans u _ (words X.scratch) (aside_left u _ 0 _ (omega arith) c.put_set.ensures) X.invariant.aside) (X.auto.scratch ∙ c.put_set.auto.s) c.requires.0 in
    let h = c.loop-k-test.true in
    let v = words X.scratch in
    let long : 2 * (left_at + (X.k + 1)) + 2 ≤ length v = omega (arith, length_words X.scratch, C.space, c.requires.0.short) in
    filled_next _ v _ c.args.c.size c.args.c c.args.x X.k (X.k + 1) _ _ _ c.requires.0.among X.invariant h refl c.part-code.ensures c.back-set.ensures long c.put_set-in-loop-k.ensures (aside_left v _ (X.k + 1) _ (omega (arith, c.requires.0.short)) c.put_set-in-loop-k.ensures)

pub returns : goal.returns
returns c =
    let X = c.loop-k in
    let u = words c.args.scratch.now in
    let F = X.invariant in
    let A = aside_left u _ 0 _ (omega arith) c.put_set.ensures in
    record {
      aside = aside_trans u _ (words X.scratch) A F.aside;
      all_left = λ I C. filled_end _ (words X.scratch) c.args.c.size c.args.c c.args.x X.k X.set c.requires.0.among F c.loop-k-test.false I (chained_kept u _ c.args.c A c.requires.0.among I c.args.c.size C);
    }
