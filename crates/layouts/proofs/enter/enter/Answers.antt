use native.Mathlib.Omega.{arith}
use mathlib.Core.Path.{◌≡◌, refl, sym, ap, subst, ◌∙◌}
use mathlib.Core.Bool.{false}
use mathlib.Core.List.{List}
use Prim.Native.Nat.{ℕ, ◌+◌, ◌*◌, ◌<◌, ◌≤◌}
use lib.Dec.{eqb}
use lib.ListN.{length, get_or, drop}
use Rattle.words.specs.Words.{words}
use Rattle.words.specs.Laws.{length_words}
use Rattle.rules.specs.Base.{contains}
use Rattle.states.specs.State.{has_pair, numbers_at}
use Rattle.states.specs.Masks.{mask_of}
use Rattle.states.specs.MaskLaws.{mask_empty}
use Rattle.layouts.specs.Read.{known_of}
use Rattle.layouts.specs.Lines.{line_in}
use Rattle.layouts.specs.Drawn.{Drawn, room_put, entered_line}
use Rattle.layouts.proofs.NumberLaws.{line_length}
use Rattle.layouts.proofs.Links.{number_below}
use Rattle.layouts.proofs.Facts.{line_fine}
use Rattle.layouts.proofs.Drawing.{at, class_line, role_line, single_line, third_kind, single_few, single_long}
use Rattle.layouts.proofs.enter.enter.Goals as goal

pub set-requires : goal.set-requires
set-requires c =
    let F = line_fine (known_of c.args.m) c.args.m.fresh c.args.at.kind c.args.at.id c.args.size (line_in (words c.args.scratch.now) c.args.n) c.requires.fine in
    record { some = c.requires.some; few = c.requires.few; below = F.below }

pub put_class-requires : goal.put_class-requires
put_class-requires c = let q : c.number-id.result < 4294967296 = c.number-id.type_inv in omega (arith, q)

pub returns-then-kind-eq51 : goal.returns-then-kind-eq51
returns-then-kind-eq51 c =
    let F = line_fine (known_of c.args.m) c.args.m.fresh c.args.at.kind c.args.at.id c.args.size (line_in (words c.args.scratch.now) c.args.n) c.requires.fine in
    let r = line_in (words c.args.scratch.now) c.args.n in
    let w = words c.args.store.now in
    let v = words c.args.scratch.now in
    let put : words c.put_class.new.store ≡ room_put w c.number-id.result (mask_of c.args.size (contains (drop 2 r))) = c.put_class.ensures ∙ ap (room_put w c.number-id.result) c.set.ensures in record {
      line = (c.number-kind.ensures, c.number-id.ensures);
      drawn = λ s D. subst (λ (t : List ℕ). Drawn (known_of c.args.m) (entered_line s r) (at c.number-kind.result c.number-id.result c.args.at.singles) c.args.size t v) (sym put) (class_line c.args.m s c.args.at c.args.size w v D r F c.number-kind.result c.number-id.result c.number-kind.ensures c.number-id.ensures c.if-kind-eq51.true);
      kept_to = λ j _. refl;
    }

pub enter_pairs-requires : goal.enter_pairs-requires
enter_pairs-requires c =
    let F = line_fine (known_of c.args.m) c.args.m.fresh c.args.at.kind c.args.at.id c.args.size (line_in (words c.args.scratch.now) c.args.n) c.requires.fine in
    let q = F.onward.placed.role (sym c.number-kind.ensures ∙ c.if-kind-eq52.true) in
    (c.requires.there, c.requires.some, omega (arith, q, c.number-id.ensures, c.args.m.few_roles), c.requires.few, F.below)

pub returns-then-kind-eq52 : goal.returns-then-kind-eq52
returns-then-kind-eq52 c =
    let F = line_fine (known_of c.args.m) c.args.m.fresh c.args.at.kind c.args.at.id c.args.size (line_in (words c.args.scratch.now) c.args.n) c.requires.fine in
    let r = line_in (words c.args.scratch.now) c.args.n in
    let w = words c.args.store.now in
    let v = words c.args.scratch.now in record {
      line = (c.number-kind.ensures, c.number-id.ensures);
      drawn = λ s D. role_line c.args.m s c.args.at c.args.size w v D r F c.number-kind.result c.number-id.result c.number-kind.ensures c.number-id.ensures (words c.enter_pairs.new.scratch) c.if-kind-eq52.true (c.enter_pairs.ensures.by_index c.args.m.roles (λ r x y. has_pair (numbers_at s.roles r) x y) D.rows);
      kept_to = c.enter_pairs.ensures.kept_to;
    }

pub number-x-requires : goal.number-x-requires
number-x-requires c =
    let F = line_fine (known_of c.args.m) c.args.m.fresh c.args.at.kind c.args.at.id c.args.size (line_in (words c.args.scratch.now) c.args.n) c.requires.fine in
    let r = line_in (words c.args.scratch.now) c.args.n in
    let e : get_or r 0 0 ≡ 53 = third_kind c.args.m c.args.at.kind c.args.at.id c.args.size r c.number-kind.result F c.number-kind.ensures c.if-kind-eq51.false c.if-kind-eq52.false in
    let l = line_length c.args.scratch.now c.args.n c.requires.there in
    let t = single_long c.args.m c.args.at.kind c.args.at.id c.args.size c.args.n r F e l in
    omega (arith, t)

pub overflow_add-class : goal.overflow_add-class
overflow_add-class c =
    let F = line_fine (known_of c.args.m) c.args.m.fresh c.args.at.kind c.args.at.id c.args.size (line_in (words c.args.scratch.now) c.args.n) c.requires.fine in
    let r = line_in (words c.args.scratch.now) c.args.n in
    let e : get_or r 0 0 ≡ 53 = third_kind c.args.m c.args.at.kind c.args.at.id c.args.size r c.number-kind.result F c.number-kind.ensures c.if-kind-eq51.false c.if-kind-eq52.false in
    let q = single_few c.args.m c.args.at.kind c.args.at.id c.args.size c.args.at.singles r F e c.requires.singles in
    omega (arith, q, c.args.m.few_classes, c.args.m.few_individuals)

pub overflow_cast-class : goal.overflow_cast-class
overflow_cast-class c =
    let F = line_fine (known_of c.args.m) c.args.m.fresh c.args.at.kind c.args.at.id c.args.size (line_in (words c.args.scratch.now) c.args.n) c.requires.fine in
    let r = line_in (words c.args.scratch.now) c.args.n in
    let e : get_or r 0 0 ≡ 53 = third_kind c.args.m c.args.at.kind c.args.at.id c.args.size r c.number-kind.result F c.number-kind.ensures c.if-kind-eq51.false c.if-kind-eq52.false in
    let q = single_few c.args.m c.args.at.kind c.args.at.id c.args.size c.args.at.singles r F e c.requires.singles in
    omega (arith, q, c.args.m.few_classes, c.args.m.few_individuals)

pub overflow_add-singles : goal.overflow_add-singles
overflow_add-singles c =
    let F = line_fine (known_of c.args.m) c.args.m.fresh c.args.at.kind c.args.at.id c.args.size (line_in (words c.args.scratch.now) c.args.n) c.requires.fine in
    let r = line_in (words c.args.scratch.now) c.args.n in
    let e : get_or r 0 0 ≡ 53 = third_kind c.args.m c.args.at.kind c.args.at.id c.args.size r c.number-kind.result F c.number-kind.ensures c.if-kind-eq51.false c.if-kind-eq52.false in
    let q = single_few c.args.m c.args.at.kind c.args.at.id c.args.size c.args.at.singles r F e c.requires.singles in
    omega (arith, q, c.args.m.few_individuals)

pub overflow_cast-x : goal.overflow_cast-x
overflow_cast-x c = let q : c.number-x.result < 4294967296 = c.number-x.type_inv in omega (arith, q)

pub with-requires : goal.with-requires
with-requires c =
    let F = line_fine (known_of c.args.m) c.args.m.fresh c.args.at.kind c.args.at.id c.args.size (line_in (words c.args.scratch.now) c.args.n) c.requires.fine in
    let r = line_in (words c.args.scratch.now) c.args.n in
    let e : get_or r 0 0 ≡ 53 = third_kind c.args.m c.args.at.kind c.args.at.id c.args.size r c.number-kind.result F c.number-kind.ensures c.if-kind-eq51.false c.if-kind-eq52.false in
    let l = line_length c.args.scratch.now c.args.n c.requires.there in
    let t = single_long c.args.m c.args.at.kind c.args.at.id c.args.size c.args.n r F e l in
    let x = number_below r c.args.size 2 F.below (omega arith) (omega (arith, l, t)) in
    omega (arith, x, c.number-x.ensures, c.requires.few)

pub put_class-requires-2 : goal.put_class-requires-2
put_class-requires-2 c =
    let F = line_fine (known_of c.args.m) c.args.m.fresh c.args.at.kind c.args.at.id c.args.size (line_in (words c.args.scratch.now) c.args.n) c.requires.fine in
    let r = line_in (words c.args.scratch.now) c.args.n in
    let e : get_or r 0 0 ≡ 53 = third_kind c.args.m c.args.at.kind c.args.at.id c.args.size r c.number-kind.result F c.number-kind.ensures c.if-kind-eq51.false c.if-kind-eq52.false in
    let q = single_few c.args.m c.args.at.kind c.args.at.id c.args.size c.args.at.singles r F e c.requires.singles in
    omega (arith, q, c.args.m.few_classes, c.args.m.few_individuals)

pub returns : goal.returns
returns c =
    let F = line_fine (known_of c.args.m) c.args.m.fresh c.args.at.kind c.args.at.id c.args.size (line_in (words c.args.scratch.now) c.args.n) c.requires.fine in
    let r = line_in (words c.args.scratch.now) c.args.n in
    let e : get_or r 0 0 ≡ 53 = third_kind c.args.m c.args.at.kind c.args.at.id c.args.size r c.number-kind.result F c.number-kind.ensures c.if-kind-eq51.false c.if-kind-eq52.false in
    let l = line_length c.args.scratch.now c.args.n c.requires.there in
    let t = single_long c.args.m c.args.at.kind c.args.at.id c.args.size c.args.n r F e l in
    let x = number_below r c.args.size 2 F.below (omega arith) (omega (arith, l, t)) in
    let q = single_few c.args.m c.args.at.kind c.args.at.id c.args.size c.args.at.singles r F e c.requires.singles in
    let w = words c.args.store.now in
    let v = words c.args.scratch.now in
    let y = c.number-x.result in
    let p = c.args.m.classes + c.args.at.singles in
    let put : words c.put_class-2.new.store ≡ room_put w p (mask_of c.args.size (λ z. eqb z y)) = c.put_class-2.ensures ∙ ap (room_put w p) (c.with.ensures c.args.size (λ _. false) (omega (arith, x, c.number-x.ensures)) (sym (mask_empty c.args.size))) in
    let room : 2 * (c.args.m.classes + c.args.at.singles) + 2 ≤ length w = omega (arith, length_words c.args.store.now, q, c.requires.room, c.args.m.few_classes, c.args.m.few_individuals) in record {
      line = (c.number-kind.ensures, c.number-id.ensures);
      drawn = λ s D. subst (λ (t : List ℕ). Drawn (known_of c.args.m) (entered_line s r) (at c.number-kind.result c.number-id.result (c.args.at.singles + 1)) c.args.size t v) (sym put) (single_line c.args.m s c.args.at c.args.size w v D r F c.number-kind.result c.number-id.result c.number-kind.ensures c.number-id.ensures y (c.number-kind.ensures ∙ e) c.number-x.ensures room);
      kept_to = λ j _. refl;
    }
