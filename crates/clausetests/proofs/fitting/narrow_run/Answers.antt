use mathlib.Core.Path.{refl}
use native.Mathlib.Omega.{arith}
use Rattle.clausetests.specs.Fitting.{is_head}
use Rattle.clausetests.proofs.RunLaws.{run_start, run_there, run_next, run_end}
use Rattle.clausetests.proofs.fitting.narrow_run.Goals as goal

pub loop-i-init : goal.loop-i-init
loop-i-init c = let A = c.args in run_start A.state.now.text.now A.state.now.store.now A.scratch.now A.run.now A.v (is_head A.side) A.state.now.size _ refl

pub narrow_at-requires : goal.narrow_at-requires
narrow_at-requires c =
    let L = c.loop-i in
    let A = c.args in
    (omega (arith, c.loop-i-test.true, L.invariant.count), run_there A.state.now.text.now A.state.now.store.now A.scratch.now A.run.now A.v (is_head A.side) A.state.now.size _ L.scratch L.i L.invariant c.requires)

pub loop-i-preserved : goal.loop-i-preserved
loop-i-preserved c =
    let L = c.loop-i in
    let A = c.args in
    run_next A.state.now.text.now A.state.now.store.now A.scratch.now A.run.now A.v (is_head A.side) A.state.now.size _ L.scratch L.i L.invariant c.loop-i-test.true _ c.narrow_at.auto.scratch c.narrow_at.ensures.changed c.narrow_at.ensures.tables

pub shape_of-scratch : goal.shape_of-scratch
shape_of-scratch c = c.loop-i.invariant.long

pub returns : goal.returns
returns c =
    let L = c.loop-i in
    let A = c.args in
    record {
      tables = run_end A.state.now.text.now A.state.now.store.now A.scratch.now A.run.now A.v (is_head A.side) A.state.now.size _ L.scratch L.i L.invariant c.loop-i-test.false;
      changed = L.invariant.other;
    }
