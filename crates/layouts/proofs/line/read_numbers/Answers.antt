use Rattle.std.proofs.Common.{rules}
use native.Mathlib.Omega.{arith}
use Prim.Native.Nat.{◌-◌, ◌/◌}
use lib.ListN.{length}
use Rattle.words.specs.Words.{words}
use Rattle.text.specs.Rows.{row_at, fields_in}
use Rattle.sets.specs.Places.{line_at}
use Rattle.layouts.proofs.Reading.{kept_before, numbers_read, numbers_other}
use Rattle.layouts.proofs.line.read_numbers.Goals as goal

pub returns-in_default : goal.returns-in_default
returns-in_default c = record {
  numbers_as = numbers_other c.args.text.now c.args.p (words c.args.scratch.now) (words c.read_row.new.t) c.read_row.result (length c.args.scratch.now / 4 - line_at) (search rules) c.read_row.ensures.result_value c.read_row.ensures.placed (omega (arith, c.requires));
  kept_to = kept_before (words c.args.scratch.now) (words c.read_row.new.t) (row_at c.args.text.now c.args.p (fields_in c.read_row.result)) line_at c.read_row.ensures.t_after;
}

pub returns-clause-numbers_as : goal.returns-clause-numbers_as
returns-clause-numbers_as c =
    numbers_read c.args.text.now c.args.p c.args.scratch.now c.requires (words c.read_row.new.t) c.in-Read.count c.in-Read.behind c.read_row.result c.in-Read.is c.read_row.ensures.result_value c.read_row.ensures.t_after
    (length c.args.scratch.now / 4 - line_at) c.read_row.ensures.placed c.then_some.result c.then_some.ensures

pub returns-clause-kept_to : goal.returns-clause-kept_to
returns-clause-kept_to c = kept_before (words c.args.scratch.now) (words c.read_row.new.t) (row_at c.args.text.now c.args.p (fields_in c.read_row.result)) line_at c.read_row.ensures.t_after
