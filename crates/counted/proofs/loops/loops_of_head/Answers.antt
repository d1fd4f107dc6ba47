use mathlib.Core.Path.{refl, ◌∙◌}
use Prim.{tt}
use native.Mathlib.Omega.{arith}
use Rattle.std.proofs.lemmas.Result.{err_from_is_err_and}
use Rattle.words.specs.Words.{words}
use Rattle.words.specs.Laws.{length_words, words_long}
use Rattle.counted.specs.OneLoop.{looping_there}
use Rattle.counted.specs.LoopTurns.{heads_start, heads_there, heads_next, heads_stop, heads_end}
use Rattle.counted.proofs.loops.loops_of_head.Goals as goal

pub head_count-j-end-requires : goal.head_count-j-end-requires
head_count-j-end-requires c =
    let A = c.args in
    omega (arith, length_words A.clauses.now, (looping_there A.k.now (words A.clauses.now) (words A.atoms.now) c.args.from c.requires.0 c.args.c c.requires.1).is.row)

pub loop-j-init : goal.loop-j-init
loop-j-init c =
    let A = c.args in
    (heads_start c.args.from c.args.c c.head_count-j-end.result A.k.now (words c.args.scratch.now) (words A.clauses.now) (words A.atoms.now) c.requires.0 c.requires.1 c.head_count-j-end.ensures c.requires.2, refl, refl, refl)

pub loop_of-requires : goal.loop_of-requires
loop_of-requires c =
    let L = c.loop-j in
    let A = c.args in
    let I = L.invariant in (
      I.0.looped.looping,
      c.requires.1,
      heads_there c.args.from c.args.c c.head_count-j-end.result A.k.now (words c.args.scratch.now) (words A.clauses.now) (words A.atoms.now) c.requires.0 c.requires.1 c.head_count-j-end.ensures (words L.scratch) (words L.clauses) (words L.atoms) L.k L.j I.0 c.loop-j-test.true,
      I.0.good,
      omega (arith, c.requires.3, I.1),
      rw (I.2, I.3) c.requires.4,
    )

pub returns-in_err-loop_of-clause-fact : goal.returns-in_err-loop_of-clause-fact
returns-in_err-loop_of-clause-fact c =
    let p = err_from_is_err_and c.from_residual.result c.from_residual.ensures.1 in
    let L = c.loop-j in
    let A = c.args in
    let I = L.invariant in
    rw (p.1, p.2) (λ d. heads_stop c.args.from c.args.c c.head_count-j-end.result A.k.now (words c.args.scratch.now) (words A.clauses.now) (words A.atoms.now) c.requires.0 c.requires.1 c.head_count-j-end.ensures (words L.scratch) (words L.clauses) (words L.atoms) L.k L.j I.0 c.loop-j-test.true (words_long A.clauses.now L.clauses I.2) (words_long A.atoms.now L.atoms I.3) _ _ _ _ c.in_err-loop_of.ensures.fact _ refl d)

pub returns-in_err-loop_of-clause-looped_after : goal.returns-in_err-loop_of-clause-looped_after
returns-in_err-loop_of-clause-looped_after c =
    let p = err_from_is_err_and c.from_residual.result c.from_residual.ensures.1 in
    rw p.1 tt

pub loop-j-preserved : goal.loop-j-preserved
loop-j-preserved c =
    let L = c.loop-j in
    let A = c.args in
    let I = L.invariant in
    let P = c.loop_of in (
      heads_next c.args.from c.args.c c.head_count-j-end.result A.k.now (words c.args.scratch.now) (words A.clauses.now) (words A.atoms.now) c.requires.0 c.requires.1 c.head_count-j-end.ensures (words L.scratch) (words L.clauses) (words L.atoms) L.k L.j I.0 c.loop-j-test.true (words_long A.clauses.now L.clauses I.2) (words_long A.atoms.now L.atoms I.3) _ _ _ _ c.in_ok-loop_of.ensures.fact c.in_ok-loop_of.ensures.looped_after _ 0 refl,
      P.auto.scratch ∙ I.1,
      P.auto.clauses ∙ I.2,
      P.auto.atoms ∙ I.3,
    )

pub returns-clause-fact : goal.returns-clause-fact
returns-clause-fact c =
    let L = c.loop-j in
    let A = c.args in
    heads_end c.args.from c.args.c c.head_count-j-end.result A.k.now (words c.args.scratch.now) (words A.clauses.now) (words A.atoms.now) c.requires.0 c.requires.1 c.head_count-j-end.ensures (words L.scratch) (words L.clauses) (words L.atoms) L.k L.j L.invariant.0 c.loop-j-test.false

pub returns-clause-looped_after : goal.returns-clause-looped_after
returns-clause-looped_after c = c.loop-j.invariant.0.looped
