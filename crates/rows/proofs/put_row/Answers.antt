use native.Mathlib.Omega.{arith}
use lib.ListN.{take, drop}
use Rattle.words.specs.Words.{words}
use Rattle.words.specs.Laws.{length_words}
use Rattle.rows.specs.RowLaws.{length_field, words_long, put_line, put_field_first}
use Rattle.rows.proofs.put_row.Goals as goal

pub put_words-q-requires : goal.put_words-q-requires
put_words-q-requires c =
    (c.requires.0, omega (arith, c.requires.1, c.put_field-p.ensures.end, length_field c.args.number, c.put_field-p.auto.out))

pub end_line-requires : goal.end_line-requires
end_line-requires c =
    let a = c.args in
    let t = a.t.now in
    let l = words_long (words t) a.from a.n (rw (length_words t) (omega (arith, c.requires.0))) in
    omega (arith, c.requires.1, c.put_field-p.ensures.end, length_field a.number, c.put_field-p.auto.out, c.put_words-q.ensures.end, l, c.put_words-q.auto.out)

pub returns : goal.returns
returns c =
    let a = c.args in
    let l = take a.n (drop a.from (words a.t.now)) in
    put_field_first a.number l c.put_field-p.ensures (put_line l c.put_words-q.ensures c.end_line.ensures)
