use mathlib.Core.Path.{refl}
use native.Mathlib.Omega.{arith}
use Rattle.words.specs.Words.{words}
use Rattle.pool.specs.Layout.{field}
use Rattle.antecedents.proofs.Counting.{named_kind, down_of, list_of_lem}
use Rattle.antecedents.proofs.Rows.{Here, row_top, row_class, row_nominal, row_and, row_or, row_some, row_other}
use Rattle.antecedents.proofs.table.row_of.Goals as goal

pub list_row-requires : goal.list_row-requires
list_row-requires c =
    let S = c.requires.0 in
    (omega (arith, S.inside, S.held.few), c.requires.1, list_of_lem _ _ _ _ S c.kind.ensures refl _ refl (rw c.in-7.is refl))

pub list_row-requires-in-8 : goal.list_row-requires-in-8
list_row-requires-in-8 c =
    let S = c.requires.0 in
    (omega (arith, S.inside, S.held.few), c.requires.1, list_of_lem _ _ _ _ S c.kind.ensures refl _ refl (rw c.in-8.is refl))

pub get_row-row-requires : goal.get_row-row-requires
get_row-row-requires c =
    let S = c.requires.0 in
    let d = down_of _ _ _ _ S c.kind.ensures c.child.ensures c.in-9.is in
    (omega (arith, S.inside, S.held.few), c.requires.1)

pub returns-in-1 : goal.returns-in-1
returns-in-1 c =
    let h : Here (words c.args.scratch.now) c.args.c c.kind.result (field (words c.args.scratch.now) c.args.c 2) (field (words c.args.scratch.now) c.args.c 3) = record { kind_is = c.kind.ensures; a_is = refl; b_is = refl } in
    row_top _ _ _ _ _ h c.in-1.is

pub returns-in-1-2 : goal.returns-in-1-2
returns-in-1-2 c =
    let h : Here (words c.args.scratch.now) c.args.c c.kind.result (field (words c.args.scratch.now) c.args.c 2) (field (words c.args.scratch.now) c.args.c 3) = record { kind_is = c.kind.ensures; a_is = refl; b_is = refl } in
    named_kind c.kind.result (omega arith) (omega arith) (row_class _ _ _ _ _ h) (row_nominal _ _ _ _ _ h)

pub returns-in-7 : goal.returns-in-7
returns-in-7 c =
    let h : Here (words c.args.scratch.now) c.args.c c.kind.result (field (words c.args.scratch.now) c.args.c 2) (field (words c.args.scratch.now) c.args.c 3) = record { kind_is = c.kind.ensures; a_is = refl; b_is = refl } in
    row_and _ _ _ _ _ h c.in-7.is _ _ c.list_row.ensures

pub returns-in-8 : goal.returns-in-8
returns-in-8 c =
    let h : Here (words c.args.scratch.now) c.args.c c.kind.result (field (words c.args.scratch.now) c.args.c 2) (field (words c.args.scratch.now) c.args.c 3) = record { kind_is = c.kind.ensures; a_is = refl; b_is = refl } in
    row_or _ _ _ _ _ h c.in-8.is _ _ c.list_row-in-8.ensures

pub returns-in-9 : goal.returns-in-9
returns-in-9 c =
    let h : Here (words c.args.scratch.now) c.args.c c.kind.result (field (words c.args.scratch.now) c.args.c 2) c.child.result = record { kind_is = c.kind.ensures; a_is = refl; b_is = c.child.ensures } in
    row_some _ _ _ _ _ h c.in-9.is _ _ _ c.get_row-row.ensures.0 c.get_row-row.ensures.1 c.saturating_add.ensures

pub returns-in_default : goal.returns-in_default
returns-in_default c =
    let h : Here (words c.args.scratch.now) c.args.c c.kind.result (field (words c.args.scratch.now) c.args.c 2) (field (words c.args.scratch.now) c.args.c 3) = record { kind_is = c.kind.ensures; a_is = refl; b_is = refl } in
    row_other _ _ _ _ _ h (record { top = λ e. omega arith; class = λ e. omega arith; nominal = λ e. omega arith; and = λ e. omega arith; or = λ e. omega arith; some = λ e. omega arith })
