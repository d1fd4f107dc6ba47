use native.Mathlib.Omega.{arith}
use mathlib.Core.Path.{refl, sym, subst, ◌∙◌}
use Prim.Native.Nat.{suc}
use lib.ListN.{length, drop}
use Rattle.words.specs.Words.{words}
use Rattle.states.specs.State.{state_by}
use Rattle.layouts.specs.Read.{known_of, StatedAs}
use Rattle.layouts.specs.Lines.{before, NextAs, GoodLine}
use Rattle.layouts.proofs.Reading.{BadLine}
use Rattle.layouts.proofs.Going.{going_first, going_few, going_told, going_on, going_end}
use Rattle.layouts.proofs.read_lines.Goals as goal

pub loop-p-init : goal.loop-p-init
loop-p-init c =
    going_first c.args.text.now c.args.store.now c.args.scratch.now c.args.m c.args.size c.args.from c.requires

pub next_line-requires : goal.next_line-requires
next_line-requires c =
    let v = c.loop-p in
    (omega (arith, v.invariant.scratch_long, c.requires.space), c.requires.few)

pub overflow_cast-result : goal.overflow_cast-result
overflow_cast-result c =
    let v = c.loop-p in
    let bad : BadLine c.args.m v.at.kind v.at.id c.args.size c.args.text.now v.p = subst (NextAs c.args.m v.at.kind v.at.id c.args.size c.args.text.now v.p (words v.scratch) (words c.next_line.new.scratch)) c.in_default.is c.next_line.ensures.next_as in
    let q = going_few c.args.text.now c.args.store.now c.args.scratch.now c.args.m c.args.size c.args.from v.store v.scratch v.at v.p v.line v.invariant c.loop-p-test.true bad in
    omega (arith, q)

pub shape_of-store-in_default : goal.shape_of-store-in_default
shape_of-store-in_default c = c.loop-p.invariant.store_long

pub shape_of-scratch-in_default : goal.shape_of-scratch-in_default
shape_of-scratch-in_default c = c.next_line.auto.scratch ∙ c.loop-p.invariant.scratch_long

pub returns-in_default : goal.returns-in_default
returns-in_default c =
    let v = c.loop-p in
    let bad : BadLine c.args.m v.at.kind v.at.id c.args.size c.args.text.now v.p = subst (NextAs c.args.m v.at.kind v.at.id c.args.size c.args.text.now v.p (words v.scratch) (words c.next_line.new.scratch)) c.in_default.is c.next_line.ensures.next_as in
    record {
      stated_as = going_told c.args.text.now c.args.store.now c.args.scratch.now c.args.m c.args.size c.args.from v.store v.scratch v.at v.p v.line v.invariant (words v.store) (words c.next_line.new.scratch) v.line refl c.loop-p-test.true bad;
      kept_to = λ i h. c.next_line.ensures.kept_to i h ∙ v.invariant.kept i h;
    }

pub enter-at-requires : goal.enter-at-requires
enter-at-requires c =
    let v = c.loop-p in
    let n = c.in-Some.next.count in
    let q = c.in-Some.next.behind in
    let w = words c.next_line.new.scratch in
    let L : GoodLine c.args.m v.at.kind v.at.id c.args.size c.args.text.now v.p (words v.scratch) w n q = subst (NextAs c.args.m v.at.kind v.at.id c.args.size c.args.text.now v.p (words v.scratch) w) c.in-Some.is c.next_line.ensures.next_as in
    record {
      few = c.requires.few;
      room = omega (arith, c.requires.room, v.invariant.store_long);
      there = (omega (arith, c.requires.space, v.invariant.scratch_long, c.next_line.auto.scratch), L.few);
      some = L.some;
      fine = L.fine;
      singles = λ i h. let z = v.invariant.drawn.ahead.singles i h in omega (arith, z, v.invariant.drawn.singles_are);
    }

pub overflow_add-line : goal.overflow_add-line
overflow_add-line c = omega (arith, c.loop-p.invariant.lines, c.loop-p.invariant.within)

pub loop-p-smaller : goal.loop-p-smaller
loop-p-smaller c =
    let v = c.loop-p in
    let n = c.in-Some.next.count in
    let q = c.in-Some.next.behind in
    let w = words c.next_line.new.scratch in
    let L : GoodLine c.args.m v.at.kind v.at.id c.args.size c.args.text.now v.p (words v.scratch) w n q = subst (NextAs c.args.m v.at.kind v.at.id c.args.size c.args.text.now v.p (words v.scratch) w) c.in-Some.is c.next_line.ensures.next_as in
    omega (arith, L.onward, L.within, c.loop-p-test.true)

pub loop-p-preserved : goal.loop-p-preserved
loop-p-preserved c =
    let v = c.loop-p in
    let n = c.in-Some.next.count in
    let q = c.in-Some.next.behind in
    let w = words c.next_line.new.scratch in
    let L : GoodLine c.args.m v.at.kind v.at.id c.args.size c.args.text.now v.p (words v.scratch) w n q = subst (NextAs c.args.m v.at.kind v.at.id c.args.size c.args.text.now v.p (words v.scratch) w) c.in-Some.is c.next_line.ensures.next_as in
    going_on c.args.text.now c.args.store.now c.args.scratch.now c.args.m c.args.size c.args.from v.store v.scratch v.at v.p v.line v.invariant w n q L c.enter-at.new.store c.enter-at.new.scratch c.enter-at.result c.loop-p-test.true c.enter-at.ensures.line c.enter-at.ensures.drawn c.next_line.ensures.kept_to c.enter-at.ensures.kept_to c.enter-at.auto.store (c.enter-at.auto.scratch ∙ c.next_line.auto.scratch)

pub shape_of-store : goal.shape_of-store
shape_of-store c = c.loop-p.invariant.store_long

pub shape_of-scratch : goal.shape_of-scratch
shape_of-scratch c = c.loop-p.invariant.scratch_long

pub returns : goal.returns
returns c =
    let v = c.loop-p in
    let d = known_of c.args.m in
    record {
      stated_as = subst (StatedAs d c.args.m (state_by (suc (length (drop c.args.from c.args.text.now))) d c.args.m.fresh 2 (before 50 0 c.args.size) (drop c.args.from c.args.text.now)) (words v.store) (words v.scratch)) (sym c.ended.ensures) (going_end c.args.text.now c.args.store.now c.args.scratch.now c.args.m c.args.size c.args.from v.store v.scratch v.at v.p v.line v.invariant c.requires.some c.requires.few c.loop-p-test.false);
      kept_to = v.invariant.kept;
    }
