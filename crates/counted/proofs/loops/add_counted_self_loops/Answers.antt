use mathlib.Core.Path.{refl, ◌∙◌}
use Prim.{tt}
use native.Mathlib.Omega.{arith}
use Rattle.std.proofs.lemmas.Result.{err_from_is_err_and}
use Rattle.words.specs.Words.{words}
use Rattle.words.specs.Laws.{words_long}
use Rattle.counted.specs.LoopTurns.{clauses_start, clauses_next, clauses_stop, clauses_end, clauses_stand}
use Rattle.counted.proofs.loops.add_counted_self_loops.Goals as goal

pub loop-c-init : goal.loop-c-init
loop-c-init c =
    let A = c.args in
    (clauses_start A.k.now (words c.args.scratch.now) (words A.clauses.now) (words A.atoms.now) c.requires.1.0 c.requires.0 c.requires.1.1 c.requires.2, refl, refl, refl)

pub loops_of_head-requires : goal.loops_of_head-requires
loops_of_head-requires c =
    let I = c.loop-c.invariant in
    (I.0.looped.looping, c.loop-c-test.true, I.0.good, omega (arith, c.requires.3, I.1), rw (I.2, I.3) c.requires.4)

pub returns-in_err-loops_of_head-clause-fact : goal.returns-in_err-loops_of_head-clause-fact
returns-in_err-loops_of_head-clause-fact c =
    let p = err_from_is_err_and c.from_residual.result c.from_residual.ensures.1 in
    let L = c.loop-c in
    let A = c.args in
    let I = L.invariant in
    rw (p.1, p.2) (λ d. clauses_stop A.k.now (words c.args.scratch.now) (words A.clauses.now) (words A.atoms.now) c.requires.1.0 c.requires.0 c.requires.1.1 (words L.scratch) (words L.clauses) (words L.atoms) L.k L.c I.0 c.loop-c-test.true (words_long A.clauses.now L.clauses I.2) (words_long A.atoms.now L.atoms I.3) _ _ _ _ c.in_err-loops_of_head.ensures.fact _ refl d)

pub returns-in_err-loops_of_head-clause-standing_below_after : goal.returns-in_err-loops_of_head-clause-standing_below_after
returns-in_err-loops_of_head-clause-standing_below_after c =
    let p = err_from_is_err_and c.from_residual.result c.from_residual.ensures.1 in
    rw p.1 tt

pub loop-c-preserved : goal.loop-c-preserved
loop-c-preserved c =
    let L = c.loop-c in
    let A = c.args in
    let I = L.invariant in
    let P = c.loops_of_head in (
      clauses_next A.k.now (words c.args.scratch.now) (words A.clauses.now) (words A.atoms.now) c.requires.1.0 c.requires.0 c.requires.1.1 (words L.scratch) (words L.clauses) (words L.atoms) L.k L.c I.0 c.loop-c-test.true (words_long A.clauses.now L.clauses I.2) (words_long A.atoms.now L.atoms I.3) _ _ _ _ c.in_ok-loops_of_head.ensures.fact c.in_ok-loops_of_head.ensures.looped_after _ 0 refl,
      P.auto.scratch ∙ I.1,
      P.auto.clauses ∙ I.2,
      P.auto.atoms ∙ I.3,
    )

pub returns-clause-fact : goal.returns-clause-fact
returns-clause-fact c =
    let L = c.loop-c in
    let A = c.args in
    clauses_end A.k.now (words c.args.scratch.now) (words A.clauses.now) (words A.atoms.now) c.requires.1.0 c.requires.0 c.requires.1.1 (words L.scratch) (words L.clauses) (words L.atoms) L.k L.c L.invariant.0 c.loop-c-test.false

pub returns-clause-standing_below_after : goal.returns-clause-standing_below_after
returns-clause-standing_below_after c =
    let L = c.loop-c in
    let A = c.args in
    clauses_stand A.k.now (words c.args.scratch.now) (words A.clauses.now) (words A.atoms.now) c.requires.1.0 c.requires.0 c.requires.1.1 (words L.scratch) (words L.clauses) (words L.atoms) L.k L.c L.invariant.0
