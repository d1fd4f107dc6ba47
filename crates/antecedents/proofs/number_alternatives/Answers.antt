use native.Mathlib.Omega.{arith}
use Rattle.antecedents.proofs.Rows.{filled_first, filled_stands, filled_next, filled_end}
use Rattle.antecedents.proofs.number_alternatives.Goals as goal

pub loop-c-init : goal.loop-c-init
loop-c-init c = filled_first _ _ _ c.requires.2 c.requires.3

pub row_of-r-requires : goal.row_of-r-requires
row_of-r-requires c =
    (filled_stands _ _ _ _ c.requires.0 c.loop-c.invariant c.loop-c-test.true, omega (arith, c.loop-c.invariant.len, c.requires.1))

pub put_row-requires : goal.put_row-requires
put_row-requires c =
    (omega (arith, c.loop-c-test.true, c.requires.0.held.few), omega (arith, c.loop-c.invariant.len, c.requires.1))

pub loop-c-preserved : goal.loop-c-preserved
loop-c-preserved c =
    filled_next _ _ _ _ c.requires.0 c.loop-c.invariant c.loop-c-test.true c.requires.1 _ _ _ c.row_of-r.ensures c.put_row.ensures c.put_row.auto.scratch

pub shape_of-scratch : goal.shape_of-scratch
shape_of-scratch c = c.loop-c.invariant.len

pub returns : goal.returns
returns c = filled_end _ _ _ _ c.requires.0 c.loop-c.invariant c.loop-c-test.false
