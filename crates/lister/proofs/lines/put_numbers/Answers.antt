use Rattle.std.specs.Prelude.{◌≡◌, length}
use Rattle.std.proofs.Common.{ap, arith}
use Rattle.rows.specs.RowLaws.{length_field, put_field_first}
use Rattle.clausify.specs.Answer.{ten_of}
use Rattle.lister.proofs.lines.put_numbers.Goals as goal

pub put_line-requires : goal.put_line-requires
put_line-requires c =
    let l : length c.words.result ≡ 10 = ap length c.words.ensures in
    omega (arith, c.requires, c.put_field-p.ensures.end, length_field 43, c.put_field-p.auto.out, l)

pub returns : goal.returns
returns c =
    let n = c.args.n in
    put_field_first 43 (ten_of n.stats n.fresh_ids n.visits) c.put_field-p.ensures (rw c.words.ensures at c.put_line.ensures)
