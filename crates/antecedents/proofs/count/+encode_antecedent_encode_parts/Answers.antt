use Rattle.std.proofs.Common.{◌≡◌, ◌+◌, ◌*◌, ◌<◌, refl, sym, subst, arith, Option, Ok}
use Rattle.std.proofs.lemmas.Result.{err_from_is_err_and}
use Rattle.words.specs.Words.{words}
use Rattle.ir.specs.Counts.{visited}
use Rattle.ir.specs.Visit.{Begun}
use Rattle.ir.specs.Encoded.{encoded, Found}
use Rattle.ir.specs.declared.answer.Alternatives.{Alternatives}
use Rattle.pool.specs.Layout.{field}
use Rattle.antecedents.specs.Counts.{is_conj, joined}
use Rattle.antecedents.specs.Stands.{Counts}
use Rattle.antecedents.proofs.Combined.{joined_unsupported, joined_refused}
use Rattle.antecedents.proofs.Counting.{named_kind, listed_is, counts_all, Visited, begun, fresh_good, Here, is_full, is_top_lem, is_class, is_nominal, is_and, is_or, is_some_lem, is_other, down_of, list_of_lem, stands_below, part_below, turn_end, turn_next, turn_unsupported, turn_refused}
use Rattle.antecedents.proofs.count.+encode_antecedent_encode_parts.Goals as goal

pub encode_antecedent-returns-in_err-visit : goal.encode_antecedent-returns-in_err-visit
encode_antecedent-returns-in_err-visit t c =
    let p = err_from_is_err_and c.from_residual.result c.from_residual.ensures.1 in
    rw (p.1, p.2, c.in_err-visit.ensures.spent) (is_full (words c.args.scratch.now) c.args.k.now c.args.c (sym c.in_err-visit.ensures.self_after))

pub encode_antecedent-encode_parts-requires : goal.encode_antecedent-encode_parts-requires
encode_antecedent-encode_parts-requires t c =
    let A = c.args in
    let w = words A.scratch.now in
    let go : visited A.k.now ≡ Begun c.visit.new.self = sym c.in_ok-visit.ensures.self_after in
    let g : Visited c.visit.new.self = begun _ _ c.requires.1 go in
    let m : A.c * 2 + 1 ≡ t = c.decreases in
    (omega arith, (c.requires.0, list_of_lem _ _ _ _ c.requires.0 c.kind.ensures refl _ refl (rw c.in-7.is refl), g.good))

pub encode_antecedent-encode_parts-requires-in-8 : goal.encode_antecedent-encode_parts-requires-in-8
encode_antecedent-encode_parts-requires-in-8 t c =
    let A = c.args in
    let w = words A.scratch.now in
    let go : visited A.k.now ≡ Begun c.visit.new.self = sym c.in_ok-visit.ensures.self_after in
    let g : Visited c.visit.new.self = begun _ _ c.requires.1 go in
    let m : A.c * 2 + 1 ≡ t = c.decreases in
    (omega arith, (c.requires.0, list_of_lem _ _ _ _ c.requires.0 c.kind.ensures refl _ refl (rw c.in-8.is refl), g.good))

pub encode_antecedent-encode_antecedent-requires : goal.encode_antecedent-encode_antecedent-requires
encode_antecedent-encode_antecedent-requires t c =
    let A = c.args in
    let w = words A.scratch.now in
    let go : visited A.k.now ≡ Begun c.visit.new.self = sym c.in_ok-visit.ensures.self_after in
    let g : Visited c.visit.new.self = begun _ _ c.requires.1 go in
    let m : A.c * 2 + 1 ≡ t = c.decreases in
    let d : c.child-b.result < A.c = down_of _ _ _ _ c.requires.0 c.kind.ensures c.child-b.ensures c.in-9.is in
    (omega arith, (stands_below _ _ _ c.requires.0 d, fresh_good _ _ g c.fresh_var.ensures.self_after))

pub encode_antecedent-returns-in_err-inner-in-9 : goal.encode_antecedent-returns-in_err-inner-in-9
encode_antecedent-returns-in_err-inner-in-9 t c =
    let A = c.args in
    let w = words A.scratch.now in
    let go : visited A.k.now ≡ Begun c.visit.new.self = sym c.in_ok-visit.ensures.self_after in
    let h : Here w A.k.now c.visit.new.self A.c c.kind.result (field w A.c 2) c.child-b.result = record { go = go; kind_is = c.kind.ensures; a_is = refl; b_is = c.child-b.ensures } in
    let d : c.child-b.result < A.c = down_of _ _ _ _ c.requires.0 c.kind.ensures c.child-b.ensures c.in-9.is in
    let u = c.fresh_var.new.self in
    let k1 = c.encode_antecedent.new.k in
    let p = err_from_is_err_and c.from_residual-in_err-inner-in-9.result c.from_residual-in_err-inner-in-9.ensures.1 in
    rw (p.1, p.2) (is_some_lem _ _ _ _ _ _ _ h c.in-9.is d u c.fresh_var.ensures.self_after _ _ c.in_err-inner-in-9.ensures refl)

pub encode_antecedent-returns-in_default-2 : goal.encode_antecedent-returns-in_default-2
encode_antecedent-returns-in_default-2 t c =
    let A = c.args in
    let w = words A.scratch.now in
    let go : visited A.k.now ≡ Begun c.visit.new.self = sym c.in_ok-visit.ensures.self_after in
    let h : Here w A.k.now c.visit.new.self A.c c.kind.result (field w A.c 2) c.child-b.result = record { go = go; kind_is = c.kind.ensures; a_is = refl; b_is = c.child-b.ensures } in
    let d : c.child-b.result < A.c = down_of _ _ _ _ c.requires.0 c.kind.ensures c.child-b.ensures c.in-9.is in
    let u = c.fresh_var.new.self in
    let k1 = c.encode_antecedent.new.k in
    is_some_lem _ _ _ _ _ _ _ h c.in-9.is d u c.fresh_var.ensures.self_after _ _ (subst (λ (o : Option Alternatives). Counts w u c.child-b.result (encoded k1 (Ok o))) c.in_default-2.is c.in_ok-inner-in-9.ensures) refl

pub encode_antecedent-returns-in_err-put_under-in-9 : goal.encode_antecedent-returns-in_err-put_under-in-9
encode_antecedent-returns-in_err-put_under-in-9 t c =
    let A = c.args in
    let w = words A.scratch.now in
    let go : visited A.k.now ≡ Begun c.visit.new.self = sym c.in_ok-visit.ensures.self_after in
    let h : Here w A.k.now c.visit.new.self A.c c.kind.result (field w A.c 2) c.child-b.result = record { go = go; kind_is = c.kind.ensures; a_is = refl; b_is = c.child-b.ensures } in
    let d : c.child-b.result < A.c = down_of _ _ _ _ c.requires.0 c.kind.ensures c.child-b.ensures c.in-9.is in
    let u = c.fresh_var.new.self in
    let k1 = c.encode_antecedent.new.k in
    let found : Counts w u c.child-b.result (Found k1 c.in-Some.inner.count c.in-Some.inner.longest) = subst (λ (o : Option Alternatives). Counts w u c.child-b.result (encoded k1 (Ok o))) c.in-Some.is c.in_ok-inner-in-9.ensures in
    let p = err_from_is_err_and c.from_residual-in_err-put_under-in-9.result c.from_residual-in_err-put_under-in-9.ensures.1 in
    rw (p.1, p.2) (is_some_lem _ _ _ _ _ _ _ h c.in-9.is d u c.fresh_var.ensures.self_after _ _ found (c.in_err-put_under-in-9.ensures k1))

pub encode_antecedent-returns-in-1 : goal.encode_antecedent-returns-in-1
encode_antecedent-returns-in-1 t c =
    let A = c.args in
    let w = words A.scratch.now in
    let go : visited A.k.now ≡ Begun c.visit.new.self = sym c.in_ok-visit.ensures.self_after in
    let h : Here w A.k.now c.visit.new.self A.c c.kind.result (field w A.c 2) (field w A.c 3) = record { go = go; kind_is = c.kind.ensures; a_is = refl; b_is = refl } in
    is_top_lem _ _ _ _ _ _ _ h c.in-1.is

pub encode_antecedent-returns-in-3 : goal.encode_antecedent-returns-in-3
encode_antecedent-returns-in-3 t c =
    let A = c.args in
    let w = words A.scratch.now in
    let go : visited A.k.now ≡ Begun c.visit.new.self = sym c.in_ok-visit.ensures.self_after in
    let h : Here w A.k.now c.visit.new.self A.c c.kind.result (field w A.c 2) (field w A.c 3) = record { go = go; kind_is = c.kind.ensures; a_is = refl; b_is = refl } in
    named_kind c.kind.result (omega arith) (omega arith) (is_class _ _ _ _ _ _ _ h) (is_nominal _ _ _ _ _ _ _ h)

pub encode_antecedent-returns-in-7 : goal.encode_antecedent-returns-in-7
encode_antecedent-returns-in-7 t c =
    let A = c.args in
    let w = words A.scratch.now in
    let go : visited A.k.now ≡ Begun c.visit.new.self = sym c.in_ok-visit.ensures.self_after in
    let h : Here w A.k.now c.visit.new.self A.c c.kind.result (field w A.c 2) (field w A.c 3) = record { go = go; kind_is = c.kind.ensures; a_is = refl; b_is = refl } in
    is_and _ _ _ _ _ _ _ h c.in-7.is _ c.encode_parts.ensures

pub encode_antecedent-returns-in-8 : goal.encode_antecedent-returns-in-8
encode_antecedent-returns-in-8 t c =
    let A = c.args in
    let w = words A.scratch.now in
    let go : visited A.k.now ≡ Begun c.visit.new.self = sym c.in_ok-visit.ensures.self_after in
    let h : Here w A.k.now c.visit.new.self A.c c.kind.result (field w A.c 2) (field w A.c 3) = record { go = go; kind_is = c.kind.ensures; a_is = refl; b_is = refl } in
    is_or _ _ _ _ _ _ _ h c.in-8.is _ c.encode_parts-in-8.ensures

pub encode_antecedent-returns-in_ok-put_under-in-9 : goal.encode_antecedent-returns-in_ok-put_under-in-9
encode_antecedent-returns-in_ok-put_under-in-9 t c =
    let A = c.args in
    let w = words A.scratch.now in
    let go : visited A.k.now ≡ Begun c.visit.new.self = sym c.in_ok-visit.ensures.self_after in
    let h : Here w A.k.now c.visit.new.self A.c c.kind.result (field w A.c 2) c.child-b.result = record { go = go; kind_is = c.kind.ensures; a_is = refl; b_is = c.child-b.ensures } in
    let d : c.child-b.result < A.c = down_of _ _ _ _ c.requires.0 c.kind.ensures c.child-b.ensures c.in-9.is in
    let u = c.fresh_var.new.self in
    let k1 = c.encode_antecedent.new.k in
    let found : Counts w u c.child-b.result (Found k1 c.in-Some.inner.count c.in-Some.inner.longest) = subst (λ (o : Option Alternatives). Counts w u c.child-b.result (encoded k1 (Ok o))) c.in-Some.is c.in_ok-inner-in-9.ensures in
    is_some_lem _ _ _ _ _ _ _ h c.in-9.is d u c.fresh_var.ensures.self_after _ _ found (c.in_ok-put_under-in-9.ensures k1)

pub encode_antecedent-returns-in_default : goal.encode_antecedent-returns-in_default
encode_antecedent-returns-in_default t c =
    let A = c.args in
    let w = words A.scratch.now in
    let go : visited A.k.now ≡ Begun c.visit.new.self = sym c.in_ok-visit.ensures.self_after in
    let h : Here w A.k.now c.visit.new.self A.c c.kind.result (field w A.c 2) (field w A.c 3) = record { go = go; kind_is = c.kind.ensures; a_is = refl; b_is = refl } in
    is_other _ _ _ _ _ _ _ h (record { top = λ e. omega arith; class = λ e. omega arith; nominal = λ e. omega arith; and = λ e. omega arith; or = λ e. omega arith; some = λ e. omega arith })

pub encode_antecedent-returns-in_default-3 : goal.encode_antecedent-returns-in_default-3
encode_antecedent-returns-in_default-3 t c =
    let A = c.args in
    let w = words A.scratch.now in
    let go : visited A.k.now ≡ Begun c.visit.new.self = sym c.in_ok-visit.ensures.self_after in
    let h : Here w A.k.now c.visit.new.self A.c c.kind.result (field w A.c 2) (field w A.c 3) = record { go = go; kind_is = c.kind.ensures; a_is = refl; b_is = refl } in
    is_other _ _ _ _ _ _ _ h (record { top = λ e. omega arith; class = λ e. omega arith; nominal = λ e. omega arith; and = λ e. omega arith; or = λ e. omega arith; some = λ e. omega arith })

pub encode_parts-encode_antecedent-requires : goal.encode_parts-encode_antecedent-requires
encode_parts-encode_antecedent-requires t c =
    let m : c.args.c * 2 ≡ t = c.decreases in
    let d : c.member-x.result < c.args.c = part_below _ _ _ _ _ _ (listed_is _ _ _ _ c.child-start.ensures c.number-i-end.ensures c.requires.1) c.loop-i-test.true c.member-x.ensures in
    (omega arith, (stands_below _ _ _ c.requires.0 d, c.loop-i.invariant.good))

pub encode_parts-returns-in_err-part : goal.encode_parts-returns-in_err-part
encode_parts-returns-in_err-part t c =
    let A = c.args in
    let w = words A.scratch.now in
    let l = c.loop-i in
    let L = listed_is _ _ _ _ c.child-start.ensures c.number-i-end.ensures c.requires.1 in
    let x = c.member-x.result in
    let k1 = c.encode_antecedent.new.k in
    let p = err_from_is_err_and c.from_residual.result c.from_residual.ensures.1 in
    rw (p.1, p.2) (counts_all _ _ _ _ _ _ _ c.child-start.ensures c.number-i-end.ensures (turn_refused _ _ _ _ _ _ _ _ l.invariant c.loop-i-test.true L x c.member-x.ensures _ _ _ refl _ c.in_err-part.ensures _ (joined_refused (is_conj A.joint) l.acc.count l.acc.longest _)))

pub encode_parts-returns-in_default : goal.encode_parts-returns-in_default
encode_parts-returns-in_default t c =
    let A = c.args in
    let w = words A.scratch.now in
    let l = c.loop-i in
    let L = listed_is _ _ _ _ c.child-start.ensures c.number-i-end.ensures c.requires.1 in
    let x = c.member-x.result in
    let k1 = c.encode_antecedent.new.k in
    counts_all _ _ _ _ _ _ _ c.child-start.ensures c.number-i-end.ensures (turn_unsupported _ _ _ _ _ _ _ _ l.invariant c.loop-i-test.true L x c.member-x.ensures _ _ _ refl _ (subst (λ (o : Option Alternatives). Counts w l.k x (encoded k1 (Ok o))) c.in_default.is c.in_ok-part.ensures) k1 (joined_unsupported (is_conj A.joint) l.acc.count l.acc.longest k1))

pub encode_parts-returns-in_err-more : goal.encode_parts-returns-in_err-more
encode_parts-returns-in_err-more t c =
    let A = c.args in
    let w = words A.scratch.now in
    let l = c.loop-i in
    let L = listed_is _ _ _ _ c.child-start.ensures c.number-i-end.ensures c.requires.1 in
    let x = c.member-x.result in
    let k1 = c.encode_antecedent.new.k in
    let found : Counts w l.k x (Found k1 c.in-Some.part.count c.in-Some.part.longest) = subst (λ (o : Option Alternatives). Counts w l.k x (encoded k1 (Ok o))) c.in-Some.is c.in_ok-part.ensures in
    let p = err_from_is_err_and c.from_residual-in_err-more.result c.from_residual-in_err-more.ensures.1 in
    rw (p.1, p.2) (counts_all _ _ _ _ _ _ _ c.child-start.ensures c.number-i-end.ensures (turn_refused _ _ _ _ _ _ _ _ l.invariant c.loop-i-test.true L x c.member-x.ensures _ _ _ refl _ found _ (c.in_err-more.ensures k1)))

pub encode_parts-returns-in_default-2 : goal.encode_parts-returns-in_default-2
encode_parts-returns-in_default-2 t c =
    let A = c.args in
    let w = words A.scratch.now in
    let l = c.loop-i in
    let L = listed_is _ _ _ _ c.child-start.ensures c.number-i-end.ensures c.requires.1 in
    let x = c.member-x.result in
    let k1 = c.encode_antecedent.new.k in
    let found : Counts w l.k x (Found k1 c.in-Some.part.count c.in-Some.part.longest) = subst (λ (o : Option Alternatives). Counts w l.k x (encoded k1 (Ok o))) c.in-Some.is c.in_ok-part.ensures in
    counts_all _ _ _ _ _ _ _ c.child-start.ensures c.number-i-end.ensures (turn_unsupported _ _ _ _ _ _ _ _ l.invariant c.loop-i-test.true L x c.member-x.ensures _ _ _ refl _ found k1 (subst (λ (o : Option Alternatives). encoded k1 (Ok o) ≡ joined (is_conj A.joint) l.acc.count l.acc.longest (Found k1 c.in-Some.part.count c.in-Some.part.longest)) c.in_default-2.is (c.in_ok-more.ensures k1)))

pub encode_parts-loop-i-preserved : goal.encode_parts-loop-i-preserved
encode_parts-loop-i-preserved t c =
    let A = c.args in
    let w = words A.scratch.now in
    let l = c.loop-i in
    let L = listed_is _ _ _ _ c.child-start.ensures c.number-i-end.ensures c.requires.1 in
    let x = c.member-x.result in
    let k1 = c.encode_antecedent.new.k in
    let found : Counts w l.k x (Found k1 c.in-Some.part.count c.in-Some.part.longest) = subst (λ (o : Option Alternatives). Counts w l.k x (encoded k1 (Ok o))) c.in-Some.is c.in_ok-part.ensures in
    turn_next _ _ _ _ _ _ _ _ l.invariant c.loop-i-test.true L x c.member-x.ensures _ _ _ refl _ _ found (subst (λ (o : Option Alternatives). encoded k1 (Ok o) ≡ joined (is_conj A.joint) l.acc.count l.acc.longest (Found k1 c.in-Some.part.count c.in-Some.part.longest)) c.in-Some-2.is (c.in_ok-more.ensures k1))

pub encode_parts-returns : goal.encode_parts-returns
encode_parts-returns t c =
    counts_all _ _ _ _ _ _ _ c.child-start.ensures c.number-i-end.ensures (turn_end _ _ _ _ _ _ _ _ c.loop-i.invariant c.loop-i-test.false)
