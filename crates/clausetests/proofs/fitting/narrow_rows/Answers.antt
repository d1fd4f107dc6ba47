use native.Mathlib.Omega.{arith}
use Rattle.clausetests.specs.Fitting.{is_head}
use Rattle.clausetests.proofs.FittingLaws.{atom_small}
use Rattle.clausetests.proofs.RowLaws.{rows_start, rows_there, rows_next}
use Rattle.clausetests.proofs.fitting.narrow_rows.Goals as goal

pub loop-e-init : goal.loop-e-init
loop-e-init c = rows_start c.args.scratch.now c.args.a c.args.at c.args.«free» (is_head c.args.side) c.args.size

pub atom_row-m-requires : goal.atom_row-m-requires
atom_row-m-requires c =
    let L = c.loop-e in
    (c.loop-e-test.true, c.requires.1, (c.requires.2.0, c.requires.2.1, rows_there c.args.scratch.now c.args.a c.args.at c.args.«free» (is_head c.args.side) c.args.size L.scratch L.e L.invariant c.requires.0 c.requires.2.0 c.requires.2.1 c.requires.2.2))

pub narrow-requires : goal.narrow-requires
narrow-requires c =
    let L = c.loop-e in
    let n = atom_small c.args.size c.args.a c.requires.2.0 c.requires.2.1 c.args.scratch.now c.requires.2.2 in
    omega (arith, L.invariant.long, c.requires.0, c.loop-e-test.true, n, c.requires.2.2.space)

pub loop-e-preserved : goal.loop-e-preserved
loop-e-preserved c =
    let L = c.loop-e in
    rows_next c.args.scratch.now c.args.a c.args.at c.args.«free» (is_head c.args.side) c.args.size L.scratch L.e L.invariant c.loop-e-test.true c.requires.0
    (atom_small c.args.size c.args.a c.requires.2.0 c.requires.2.1 c.args.scratch.now c.requires.2.2) c.atom_row-m.result _ c.narrow.auto.scratch c.atom_row-m.ensures c.narrow.ensures.by_index c.narrow.ensures.changed

pub shape_of-scratch : goal.shape_of-scratch
shape_of-scratch c = c.loop-e.invariant.long

pub returns : goal.returns
returns c =
    let L = c.loop-e in
    record {
      e_after = (λ I roles text w f G N h e l. L.invariant.done I roles text w f G N h e (omega (arith, l, c.loop-e-test.false)));
      changed = L.invariant.other;
    }
