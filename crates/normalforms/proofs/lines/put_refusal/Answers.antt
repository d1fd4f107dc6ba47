use mathlib.Core.List.{[], ◌∷◌}
use native.Mathlib.Omega.{arith}
use Rattle.ir.specs.Refusals.{refusal_number}
use Rattle.rows.specs.RowLaws.{length_line}
use Rattle.normalforms.proofs.lines.put_refusal.Goals as goal

pub returns : goal.returns
returns c =
    let e = c.args.e in
    let p = rw c.number.ensures at c.put_line.ensures in
    record {
      put = p;
      upper_bound = omega (arith, p.end, length_line (49 ∷ refusal_number e.refusal ∷ e.line ∷ []));
    }
