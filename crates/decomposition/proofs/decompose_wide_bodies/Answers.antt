use mathlib.Core.Path.{◌≡◌, refl, ap, ◌∙◌}
use Prim.Native.Nat.{◌<◌}
use native.Mathlib.Omega.{arith}
use Rattle.words.specs.Words.{words}
use Rattle.words.specs.Laws.{length_words}
use Rattle.std.proofs.lemmas.Result.{err_from_is_err_and}
use Rattle.ir.specs.declared.refusal.Refusal.{Refusal}
use Rattle.ir.specs.Refusals.{refusal_number}
use Rattle.rules.specs.Base.{refused}
use Rattle.decomposition.specs.StartLaws.{listed, clauses_many, passed_start}
use Rattle.decomposition.specs.FinishLaws.{full_shown}
use Rattle.decomposition.proofs.decompose_wide_bodies.Goals as goal

pub loop-c-init : goal.loop-c-init
loop-c-init c =
    let A = c.args in
    (refl, refl, refl, refl, λ D. passed_start A.k.now (words A.clauses.now) (words A.atoms.now) D (words c.clear.new.scratch))

pub turn-requires : goal.turn-requires
turn-requires c =
    let A = c.args in
    let cl = words A.clauses.now in
    let at = words A.atoms.now in
    let D = c.requires.0 in
    let I = c.loop-c.invariant in (
      record {
        list = D.state.clauses;
        fresh = D.state.next_fresh;
        c = cl;
        a = at;
        listed = listed A.k.now cl at D;
        more = omega (arith, c.loop-c-test.true, clauses_many A.k.now cl at D);
        passed = I.4 D;
      },
      omega (arith, I.0, c.clear.auto.scratch, c.requires.1),
      rw (I.1, I.2) c.requires.2,
    )

pub returns-in_err-p : goal.returns-in_err-p
returns-in_err-p c =
    let A = c.args in
    let cl = words A.clauses.now in
    let at = words A.atoms.now in
    let D = c.requires.0 in
    let I = c.loop-c.invariant in
    let more : c.loop-c.c < A.k.now.clauses = c.loop-c-test.true in
    let back = err_from_is_err_and c.from_residual.result c.from_residual.ensures.1 in rw (back.1, back.2)
    (λ D.
    let o = c.in_err-p.ensures D.state.clauses D.state.next_fresh cl at (listed A.k.now cl at D) (omega (arith, more, clauses_many A.k.now cl at D)) (I.4 D) in
    ap (λ (x : Refusal). refused (refusal_number x)) o.0 ∙ full_shown A.k.now cl at D (omega (arith, D.lent.atoms, length_words A.atoms.now, c.requires.2.atoms)) o.1)

pub loop-c-preserved : goal.loop-c-preserved
loop-c-preserved c =
    let A = c.args in
    let cl = words A.clauses.now in
    let at = words A.atoms.now in
    let I = c.loop-c.invariant in
    let turned = c.turn in
    let more : c.loop-c.c < A.k.now.clauses = c.loop-c-test.true in (
      turned.auto.scratch ∙ I.0,
      turned.auto.clauses ∙ I.1,
      turned.auto.atoms ∙ I.2,
      I.3,
      λ D.
          (c.in_ok-p.ensures D.state.clauses D.state.next_fresh cl at (listed A.k.now cl at D) (omega (arith, more, clauses_many A.k.now cl at D)) (I.4 D)),
    )

pub finish-requires : goal.finish-requires
finish-requires c =
    let A = c.args in
    let cl = words A.clauses.now in
    let at = words A.atoms.now in
    let D = c.requires.0 in
    let I = c.loop-c.invariant in
    let e : c.loop-c.c ≡ A.k.now.clauses = omega (arith, c.loop-c.auto.c-end, c.loop-c-test.false) in
    (rw I.3 (record { c = cl; a = at; before = D; passed = rw e at (I.4 D) }), omega (arith, I.0, c.clear.auto.scratch, c.requires.1), rw (I.1, I.2) c.requires.2)

pub returns : goal.returns
returns c =
    let A = c.args in
    let cl = words A.clauses.now in
    let at = words A.atoms.now in
    let I = c.loop-c.invariant in
    let e : c.loop-c.c ≡ A.k.now.clauses = omega (arith, c.loop-c.auto.c-end, c.loop-c-test.false) in
    λ D. rw I.3 at (c.finish.ensures cl at) D (rw e at (I.4 D))
