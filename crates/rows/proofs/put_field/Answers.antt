use native.Mathlib.Omega.{arith}
use Rattle.rows.specs.RowLaws.{length_field}
use Rattle.rows.proofs.put_field.Goals as goal

pub returns : goal.returns
returns c =
    let a = c.args in
    record { bytes = c.put_digits.ensures; end = omega (arith, length_field a.number) }
