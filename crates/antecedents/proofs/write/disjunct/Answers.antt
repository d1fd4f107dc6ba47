use mathlib.Core.Path.{ap, ◌∙◌}
use mathlib.Core.List.{List}
use Prim.Native.Nat.{ℕ}
use native.Mathlib.Omega.{arith}
use Rattle.words.specs.Words.{words}
use Rattle.antecedents.specs.Stands.{Listed}
use Rattle.antecedents.specs.Writes.{chosen_of}
use Rattle.antecedents.proofs.Counting.{listed_is, list_is, part_below}
use Rattle.antecedents.proofs.Writing.{look_first, look_found, look_next, look_end}
use Rattle.antecedents.proofs.write.disjunct.Goals as goal

pub loop-i-init : goal.loop-i-init
loop-i-init c = look_first _ _ _ _ _

pub overflow_add-start : goal.overflow_add-start
overflow_add-start c = omega (arith, c.requires.2.within, c.loop-i-test.true, c.child-start.ensures, c.number-i-end.ensures)

pub member-x-requires : goal.member-x-requires
member-x-requires c = (omega (arith, c.requires.2.within, c.loop-i-test.true, c.child-start.ensures, c.number-i-end.ensures), omega (arith, c.requires.1))

pub get_row-row-requires : goal.get_row-row-requires
get_row-row-requires c =
    let L : Listed (words c.args.scratch.now) c.args.c c.child-start.result c.number-i-end.result = listed_is _ _ _ _ c.child-start.ensures c.number-i-end.ensures c.requires.2 in
    let d = part_below _ _ _ _ _ _ L c.loop-i-test.true c.member-x.ensures in
    (omega (arith, c.requires.0), c.requires.1)

pub returns-then-j-row : goal.returns-then-j-row
returns-then-j-row c =
    look_found _ _ _ _ _ _ _ _ c.loop-i.invariant _ _ c.member-x.ensures c.get_row-row.ensures.0 c.loop-i-test.true c.if-j-row.true
    ∙ ap (λ (l : List ℕ). chosen_of (words c.args.scratch.now) l c.args.y c.args.k) (list_is _ _ _ _ c.child-start.ensures c.number-i-end.ensures)

pub loop-i-preserved : goal.loop-i-preserved
loop-i-preserved c =
    look_next _ _ _ _ _ _ _ _ c.loop-i.invariant _ _ c.member-x.ensures c.get_row-row.ensures.0 c.loop-i-test.true c.if-j-row.false _ _ c.get_row-row.ensures.1 c.saturating_add-w.ensures

pub returns : goal.returns
returns c =
    look_end _ _ _ _ _ _ _ _ c.loop-i.invariant c.loop-i-test.false
    ∙ ap (λ (l : List ℕ). chosen_of (words c.args.scratch.now) l c.args.y c.args.k) (list_is _ _ _ _ c.child-start.ensures c.number-i-end.ensures)
