use Rattle.std.proofs.Common.{◌≡◌, ◌+◌, ◌*◌, ◌<◌, refl, arith}
use Rattle.words.specs.Words.{words}
use Rattle.pool.specs.Layout.{field}
use Rattle.antecedents.specs.Stands.{HasList, Listed}
use Rattle.antecedents.specs.WriteLaws.{writable_stands, writable_below, writable_kept}
use Rattle.antecedents.proofs.Counting.{listed_is, list_is, down_of, list_of_lem}
use Rattle.antecedents.proofs.Rows.{Here}
use Rattle.antecedents.proofs.Writing.{class_of, nominal_of, code_of_lem, chosen_below, is_top_lem, is_class, is_nominal, is_and, is_nothing, is_one_lem, is_some_lem, is_other, turn_first, turn_end, turn_next, part_less, part_id_less}
use Rattle.antecedents.proofs.write.+write_one_write_parts.Goals as goal

pub write_one-put-requires : goal.write_one-put-requires
write_one-put-requires t c =
    let h : Here (words c.args.scratch.now) c.args.c c.kind.result c.number-class.result (field (words c.args.scratch.now) c.args.c 3) = record { kind_is = c.kind.ensures; a_is = c.number-class.ensures; b_is = refl } in
    class_of _ _ _ _ _ _ c.requires.0 h c.in-3.is

pub write_one-overflow_add-class : goal.write_one-overflow_add-class
write_one-overflow_add-class t c =
    let h : Here (words c.args.scratch.now) c.args.c c.kind.result c.number.result (field (words c.args.scratch.now) c.args.c 3) = record { kind_is = c.kind.ensures; a_is = c.number.ensures; b_is = refl } in
    let n = nominal_of _ _ _ _ _ _ c.requires.0 h c.in-4.is in
    omega (arith, n)

pub write_one-put-requires-in-4 : goal.write_one-put-requires-in-4
write_one-put-requires-in-4 t c =
    let h : Here (words c.args.scratch.now) c.args.c c.kind.result c.number.result (field (words c.args.scratch.now) c.args.c 3) = record { kind_is = c.kind.ensures; a_is = c.number.ensures; b_is = refl } in
    nominal_of _ _ _ _ _ _ c.requires.0 h c.in-4.is

pub write_one-write_parts-requires : goal.write_one-write_parts-requires
write_one-write_parts-requires t c =
    let m : c.args.c * 2 + 1 ≡ t = c.decreases in
    let L : HasList (words c.args.scratch.now) c.args.c = list_of_lem _ _ _ _ (writable_stands _ _ _ c.requires.0) c.kind.ensures refl _ refl (rw c.in-7.is refl) in
    (omega arith, (c.requires.0, c.requires.1, L))

pub write_one-disjunct-requires : goal.write_one-disjunct-requires
write_one-disjunct-requires t c =
    let S = c.requires.0 in
    let L : HasList (words c.args.scratch.now) c.args.c = list_of_lem _ _ _ _ (writable_stands _ _ _ c.requires.0) c.kind.ensures refl _ refl (rw c.in-8.is refl) in
    (omega (arith, S.inside, S.held.few), omega (arith, S.room), L)

pub write_one-write_one-requires : goal.write_one-write_one-requires
write_one-write_one-requires t c =
    let m : c.args.c * 2 + 1 ≡ t = c.decreases in
    let L : HasList (words c.args.scratch.now) c.args.c = list_of_lem _ _ _ _ (writable_stands _ _ _ c.requires.0) c.kind.ensures refl _ refl (rw c.in-8.is refl) in
    let x : c.in-Some.q.id < c.args.c = chosen_below _ _ _ _ _ _ _ _ L c.disjunct.ensures c.in-Some.is in
    (omega arith, (writable_below _ _ _ c.requires.0 _ x, c.requires.1))

pub write_one-put_role-p-requires : goal.write_one-put_role-p-requires
write_one-put_role-p-requires t c =
    let h : Here (words c.args.scratch.now) c.args.c c.kind.result (field (words c.args.scratch.now) c.args.c 2) (field (words c.args.scratch.now) c.args.c 3) = record { kind_is = c.kind.ensures; a_is = refl; b_is = refl } in
    let S = c.requires.0 in
    (omega (arith, S.inside, S.held.few), S.room, code_of_lem _ _ _ _ _ _ S h c.in-9.is)

pub write_one-write_one-requires-in-9 : goal.write_one-write_one-requires-in-9
write_one-write_one-requires-in-9 t c =
    let m : c.args.c * 2 + 1 ≡ t = c.decreases in
    let d : c.child-b.result < c.args.c = down_of _ _ _ _ (writable_stands _ _ _ c.requires.0) c.kind.ensures c.child-b.ensures c.in-9.is in
    let K = c.put_role-p.ensures.kept in
    (omega arith, (writable_below _ _ _ (writable_kept _ _ _ c.requires.0 _ _ _ c.requires.1 c.put_role-p.auto.scratch K) _ d, omega (arith, c.requires.1, K.up)))

pub write_one-returns-in-1 : goal.write_one-returns-in-1
write_one-returns-in-1 t c =
    let h : Here (words c.args.scratch.now) c.args.c c.kind.result (field (words c.args.scratch.now) c.args.c 2) (field (words c.args.scratch.now) c.args.c 3) = record { kind_is = c.kind.ensures; a_is = refl; b_is = refl } in
    is_top_lem _ _ _ _ _ _ h _ _ _ _ c.in-1.is

pub write_one-returns-in-3 : goal.write_one-returns-in-3
write_one-returns-in-3 t c =
    let h : Here (words c.args.scratch.now) c.args.c c.kind.result c.number-class.result (field (words c.args.scratch.now) c.args.c 3) = record { kind_is = c.kind.ensures; a_is = c.number-class.ensures; b_is = refl } in
    is_class _ _ _ _ _ _ h _ _ _ _ c.in-3.is _ _ c.put.ensures

pub write_one-returns-in-4 : goal.write_one-returns-in-4
write_one-returns-in-4 t c =
    let h : Here (words c.args.scratch.now) c.args.c c.kind.result c.number.result (field (words c.args.scratch.now) c.args.c 3) = record { kind_is = c.kind.ensures; a_is = c.number.ensures; b_is = refl } in
    is_nominal _ _ _ _ _ _ h _ _ _ _ c.in-4.is _ _ c.put-in-4.ensures

pub write_one-returns-in-7 : goal.write_one-returns-in-7
write_one-returns-in-7 t c =
    let h : Here (words c.args.scratch.now) c.args.c c.kind.result (field (words c.args.scratch.now) c.args.c 2) (field (words c.args.scratch.now) c.args.c 3) = record { kind_is = c.kind.ensures; a_is = refl; b_is = refl } in
    is_and _ _ _ _ _ _ h _ _ _ _ c.in-7.is _ _ c.write_parts.ensures

pub write_one-returns-in-Some : goal.write_one-returns-in-Some
write_one-returns-in-Some t c =
    let h : Here (words c.args.scratch.now) c.args.c c.kind.result (field (words c.args.scratch.now) c.args.c 2) (field (words c.args.scratch.now) c.args.c 3) = record { kind_is = c.kind.ensures; a_is = refl; b_is = refl } in
    let L : HasList (words c.args.scratch.now) c.args.c = list_of_lem _ _ _ _ (writable_stands _ _ _ c.requires.0) c.kind.ensures refl _ refl (rw c.in-8.is refl) in
    is_one_lem _ _ _ _ _ _ h _ _ _ _ c.in-8.is L _ c.disjunct.ensures _ c.in-Some.is _ _ c.write_one.ensures

pub write_one-returns-in-None : goal.write_one-returns-in-None
write_one-returns-in-None t c =
    let h : Here (words c.args.scratch.now) c.args.c c.kind.result (field (words c.args.scratch.now) c.args.c 2) (field (words c.args.scratch.now) c.args.c 3) = record { kind_is = c.kind.ensures; a_is = refl; b_is = refl } in
    let L : HasList (words c.args.scratch.now) c.args.c = list_of_lem _ _ _ _ (writable_stands _ _ _ c.requires.0) c.kind.ensures refl _ refl (rw c.in-8.is refl) in
    is_nothing _ _ _ _ _ _ h _ _ _ _ c.in-8.is L _ c.disjunct.ensures c.in-None.is

pub write_one-returns-in-9 : goal.write_one-returns-in-9
write_one-returns-in-9 t c =
    let h : Here (words c.args.scratch.now) c.args.c c.kind.result (field (words c.args.scratch.now) c.args.c 2) c.child-b.result = record { kind_is = c.kind.ensures; a_is = refl; b_is = c.child-b.ensures } in
    let d : c.child-b.result < c.args.c = down_of _ _ _ _ (writable_stands _ _ _ c.requires.0) c.kind.ensures c.child-b.ensures c.in-9.is in
    is_some_lem _ _ _ _ _ _ h _ _ _ _ c.in-9.is c.requires.1 d _ _ c.put_role-p.ensures _ c.saturating_add-w.ensures _ _ c.write_one-in-9.ensures

pub write_one-returns-in_default : goal.write_one-returns-in_default
write_one-returns-in_default t c =
    let h : Here (words c.args.scratch.now) c.args.c c.kind.result (field (words c.args.scratch.now) c.args.c 2) (field (words c.args.scratch.now) c.args.c 3) = record { kind_is = c.kind.ensures; a_is = refl; b_is = refl } in
    is_other _ _ _ _ _ _ h _ _ _ _ (record { top = λ e. omega arith; class = λ e. omega arith; nominal = λ e. omega arith; and = λ e. omega arith; or = λ e. omega arith; some = λ e. omega arith })

pub write_parts-loop-i-init : goal.write_parts-loop-i-init
write_parts-loop-i-init t c = turn_first _ _ _ _ _ _ _ _ _ _

pub write_parts-next_part-q-requires : goal.write_parts-next_part-q-requires
write_parts-next_part-q-requires t c =
    let S = c.requires.0 in
    let L : Listed (words c.args.scratch.now) c.args.c c.child-start.result c.number-i-end.result = listed_is _ _ _ _ c.child-start.ensures c.number-i-end.ensures c.requires.2 in
    let w = L.within in
    let d = part_less _ _ _ _ _ _ _ _ _ _ _ _ _ _ _ _ c.loop-i.invariant c.requires.1 L c.loop-i-test.true in
    (omega arith, omega (arith, d, S.inside, S.held.few), omega (arith, c.loop-i.auto.scratch, S.room))

pub write_parts-write_one-p-requires : goal.write_parts-write_one-p-requires
write_parts-write_one-p-requires t c =
    let m : c.args.c * 2 ≡ t = c.decreases in
    let K = c.loop-i.invariant.kept in
    let L : Listed (words c.args.scratch.now) c.args.c c.child-start.result c.number-i-end.result = listed_is _ _ _ _ c.child-start.ensures c.number-i-end.ensures c.requires.2 in
    let d : c.next_part-q.result.id < c.args.c = part_id_less _ _ _ _ _ _ _ _ _ _ _ _ _ _ _ _ c.loop-i.invariant c.requires.1 L c.loop-i-test.true _ c.next_part-q.ensures in
    (omega arith, (writable_below _ _ _ (writable_kept _ _ _ c.requires.0 _ _ _ c.requires.1 c.loop-i.auto.scratch K) _ d, omega (arith, c.requires.1, K.up)))

pub write_parts-loop-i-preserved : goal.write_parts-loop-i-preserved
write_parts-loop-i-preserved t c =
    let L : Listed (words c.args.scratch.now) c.args.c c.child-start.result c.number-i-end.result = listed_is _ _ _ _ c.child-start.ensures c.number-i-end.ensures c.requires.2 in
    turn_next _ _ _ _ _ _ _ _ _ _ _ _ _ _ _ _ c.loop-i.invariant c.requires.1 L c.loop-i-test.true _ c.next_part-q.ensures _ _ c.write_one-p.ensures

pub write_parts-overflow_add-start : goal.write_parts-overflow_add-start
write_parts-overflow_add-start t c = omega (arith, c.requires.2.within, c.loop-i-test.true, c.child-start.ensures, c.number-i-end.ensures)

pub write_parts-returns : goal.write_parts-returns
write_parts-returns t c = turn_end _ _ _ _ _ _ _ _ _ _ _ _ _ _ _ _ c.loop-i.invariant c.loop-i-test.false c.get_row-r.ensures.0 (list_is _ _ _ _ c.child-start.ensures c.number-i-end.ensures)
