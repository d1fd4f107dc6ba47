use mathlib.Core.Path.{◌≡◌, subst}
use mathlib.Core.List.{List}
use Prim.Native.Nat.{ℕ}
use native.Mathlib.Omega.{arith}
use Rattle.words.specs.Words.{words}
use Rattle.antecedents.specs.Counts.{is_conj, first_of}
use Rattle.antecedents.specs.Stands.{Listed}
use Rattle.antecedents.specs.Table.{size_all, vars_all}
use Rattle.antecedents.proofs.Counting.{listed_is, list_is, part_below}
use Rattle.antecedents.proofs.Rows.{turn_first, turn_next, turn_end}
use Rattle.antecedents.proofs.table.list_row.Goals as goal

pub loop-i-init : goal.loop-i-init
loop-i-init c = rw c.first-size.ensures (turn_first _ _ _ _ _)

pub overflow_add-start : goal.overflow_add-start
overflow_add-start c = omega (arith, c.requires.2.within, c.loop-i-test.true, c.child-start.ensures, c.number-i-end.ensures)

pub member-x-requires : goal.member-x-requires
member-x-requires c = (omega (arith, c.requires.2.within, c.loop-i-test.true, c.child-start.ensures, c.number-i-end.ensures), omega (arith, c.requires.1))

pub get_row-row-requires : goal.get_row-row-requires
get_row-row-requires c =
    let L : Listed (words c.args.scratch.now) c.args.c c.child-start.result c.number-i-end.result = listed_is _ _ _ _ c.child-start.ensures c.number-i-end.ensures c.requires.2 in
    let d = part_below _ _ _ _ _ _ L c.loop-i-test.true c.member-x.ensures in
    (omega (arith, c.requires.0), c.requires.1)

pub loop-i-preserved : goal.loop-i-preserved
loop-i-preserved c =
    turn_next _ _ _ _ _ _ _ _ c.loop-i.invariant c.loop-i-test.true _ _ _ _ _ c.member-x.ensures c.get_row-row.ensures.0 c.join_size-size.ensures c.get_row-row.ensures.1 c.saturating_add-vars.ensures

pub returns : goal.returns
returns c =
    subst (λ (l : List ℕ). (c.loop-i.size ≡ size_all (words c.args.scratch.now) (is_conj c.args.joint) l (first_of (is_conj c.args.joint))) × (c.loop-i.vars ≡ vars_all (words c.args.scratch.now) l 0))
    (list_is _ _ _ _ c.child-start.ensures c.number-i-end.ensures) (turn_end _ _ _ _ _ _ _ _ c.loop-i.invariant c.loop-i-test.false)
