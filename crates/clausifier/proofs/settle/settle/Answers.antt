use native.Mathlib.Omega.{arith}
use mathlib.Core.Path.{refl, ◌∙◌}
use Rattle.std.proofs.lemmas.Result.{err_from_is_err_and}
use Rattle.ir.specs.Answer.{Done}
use Rattle.clausifier.specs.SettleTurns.{settle_first, settle_end, settle_place, settle_asks, settle_more, settle_halt}
use Rattle.clausifier.proofs.settle.settle.Goals as goal

pub loop-i-init : goal.loop-i-init
loop-i-init c = (settle_first c.args.scratch.now c.args.lent.now.clauses.now c.args.lent.now.atoms.now c.args.lent.now.deferrals.now c.args.lent.now.counters c.requires.0, (refl, refl, refl, refl, refl, refl))

pub count-requires : goal.count-requires
count-requires c = c.loop-i.invariant.0.ready.queue

pub filler-filler-requires : goal.filler-filler-requires
filler-filler-requires c =
    let t = c.loop-i in
    let n = c.count in
    let h = c.loop-i-test.true in
    (t.invariant.0.ready.queue, settle_place c.args.scratch.now c.args.lent.now.clauses.now c.args.lent.now.atoms.now c.args.lent.now.deferrals.now c.args.lent.now.counters t.scratch t.lent.clauses.now t.lent.atoms.now t.lent.deferrals.now t.lent.counters t.i t.invariant.0 c.requires.1 n.result n.ensures h)

pub name-name-requires : goal.name-name-requires
name-name-requires c =
    let t = c.loop-i in
    let n = c.count in
    let h = c.loop-i-test.true in
    (t.invariant.0.ready.queue, settle_place c.args.scratch.now c.args.lent.now.clauses.now c.args.lent.now.atoms.now c.args.lent.now.deferrals.now c.args.lent.now.counters t.scratch t.lent.clauses.now t.lent.atoms.now t.lent.deferrals.now t.lent.counters t.i t.invariant.0 c.requires.1 n.result n.ensures h)

pub settle_one-requires : goal.settle_one-requires
settle_one-requires c =
    let t = c.loop-i in
    let n = c.count in
    let h = c.loop-i-test.true in
    let f = c.filler-filler in
    let m = c.name-name in
    let q = settle_asks c.args.scratch.now c.args.lent.now.clauses.now c.args.lent.now.atoms.now c.args.lent.now.deferrals.now c.args.lent.now.counters t.scratch t.lent.clauses.now t.lent.atoms.now t.lent.deferrals.now t.lent.counters t.i t.invariant.0 c.requires.1 n.result n.ensures h f.result m.result f.ensures m.ensures in
    (t.invariant.0.ready, q.0, q.1)

pub returns-in_err-settle_one-clause-fact : goal.returns-in_err-settle_one-clause-fact
returns-in_err-settle_one-clause-fact c =
    let p = err_from_is_err_and c.from_residual.result c.from_residual.ensures.1 in
    let t = c.loop-i in
    let n = c.count in
    let h = c.loop-i-test.true in
    let f = c.filler-filler in
    let m = c.name-name in
    let r = c.settle_one in
    let R = r.ensures.references in
    let E = c.in_err-settle_one.ensures in
    rw (p.1, p.2) (settle_halt c.args.scratch.now c.args.lent.now.clauses.now c.args.lent.now.atoms.now c.args.lent.now.deferrals.now c.args.lent.now.counters t.scratch t.lent.clauses.now t.lent.atoms.now t.lent.deferrals.now t.lent.counters t.i t.invariant.0 c.requires.1 n.result n.ensures h f.result m.result f.ensures m.ensures _ _ _ _ r.auto.scratch R.3 R.4 R.5 _ E.clausified.0 E.clausified.1 _ refl)

pub returns-in_err-settle_one-clause-references : goal.returns-in_err-settle_one-clause-references
returns-in_err-settle_one-clause-references c =
    let S = c.loop-i.invariant.1 in
    let R = c.settle_one.ensures.references in
    (R.0 ∙ S.0, R.1 ∙ S.1, R.2 ∙ S.2, R.3 ∙ S.3, R.4 ∙ S.4, R.5 ∙ S.5)

pub overflow_add-i : goal.overflow_add-i
overflow_add-i c =
    let t = c.loop-i in
    let n = c.count in
    let h = c.loop-i-test.true in
    omega (arith, settle_place c.args.scratch.now c.args.lent.now.clauses.now c.args.lent.now.atoms.now c.args.lent.now.deferrals.now c.args.lent.now.counters t.scratch t.lent.clauses.now t.lent.atoms.now t.lent.deferrals.now t.lent.counters t.i t.invariant.0 c.requires.1 n.result n.ensures h)

pub loop-i-smaller : goal.loop-i-smaller
loop-i-smaller c =
    let t = c.loop-i in
    let n = c.count in
    let h = c.loop-i-test.true in
    omega (arith, settle_place c.args.scratch.now c.args.lent.now.clauses.now c.args.lent.now.atoms.now c.args.lent.now.deferrals.now c.args.lent.now.counters t.scratch t.lent.clauses.now t.lent.atoms.now t.lent.deferrals.now t.lent.counters t.i t.invariant.0 c.requires.1 n.result n.ensures h)

pub loop-i-preserved : goal.loop-i-preserved
loop-i-preserved c =
    let t = c.loop-i in
    let n = c.count in
    let h = c.loop-i-test.true in
    let f = c.filler-filler in
    let m = c.name-name in
    let r = c.settle_one in
    let R = r.ensures.references in
    let S = t.invariant.1 in
    let E = c.in_ok-settle_one.ensures in (
      settle_more c.args.scratch.now c.args.lent.now.clauses.now c.args.lent.now.atoms.now c.args.lent.now.deferrals.now c.args.lent.now.counters t.scratch t.lent.clauses.now t.lent.atoms.now t.lent.deferrals.now t.lent.counters t.i t.invariant.0 c.requires.1 n.result n.ensures h f.result m.result f.ensures m.ensures _ _ _ _ r.auto.scratch R.3 R.4 R.5 (Done r.new.lent.counters 0) E.clausified.0 E.clausified.1 r.new.lent.counters 0 refl E.clausifying_after,
      (R.0 ∙ S.0, R.1 ∙ S.1, R.2 ∙ S.2, R.3 ∙ S.3, R.4 ∙ S.4, R.5 ∙ S.5),
    )

pub returns : goal.returns
returns c =
    let t = c.loop-i in
    let n = c.count in
    record {
      references = t.invariant.1;
      fact = settle_end c.args.scratch.now c.args.lent.now.clauses.now c.args.lent.now.atoms.now c.args.lent.now.deferrals.now c.args.lent.now.counters t.scratch t.lent.clauses.now t.lent.atoms.now t.lent.deferrals.now t.lent.counters t.i t.invariant.0 n.result n.ensures c.loop-i-test.false;
      clausifying_after = t.invariant.0.ready;
    }
