use native.Mathlib.Omega.{arith}
use Rattle.extents.proofs.SetsLaws.{sets_start, sets_ready, sets_few, sets_more, sets_end}
use Rattle.extents.proofs.concept_sets.Goals as goal

pub loop-c-init : goal.loop-c-init
loop-c-init c = let a = c.args in sets_start a.store.now a.scratch.now a.t

pub concept_set-set-requires : goal.concept_set-set-requires
concept_set-set-requires c =
    let L = c.loop-c in
    let a = c.args in
    (sets_ready a.store.now a.scratch.now L.scratch a.t L.c L.invariant c.requires, c.loop-c-test.true)

pub put_set-requires : goal.put_set-requires
put_set-requires c =
    let L = c.loop-c in
    let a = c.args in
    let h = sets_few a.store.now a.scratch.now L.scratch a.t L.c L.invariant c.requires c.loop-c-test.true in
    omega (arith, h, (sets_ready a.store.now a.scratch.now L.scratch a.t L.c L.invariant c.requires).space)

pub loop-c-preserved : goal.loop-c-preserved
loop-c-preserved c =
    let L = c.loop-c in
    let a = c.args in
    sets_more a.store.now a.scratch.now L.scratch a.t L.c L.invariant c.requires c.loop-c-test.true c.concept_set-set.result c.concept_set-set.ensures c.put_set.new.s c.put_set.ensures c.put_set.auto.s

pub shape_of-scratch : goal.shape_of-scratch
shape_of-scratch c = c.loop-c.invariant.long

pub returns : goal.returns
returns c =
    let L = c.loop-c in
    let a = c.args in
    record {
      concept_sets = sets_end a.store.now a.scratch.now L.scratch a.t L.c L.invariant c.loop-c-test.false;
      kept_to = L.invariant.low;
      kept_in = L.invariant.high;
    }
