use Prim.Native.Nat.{◌+◌, ◌*◌, ◌≤◌}
use mathlib.Core.Path.{refl, ◌∙◌}
use native.Mathlib.Omega.{arith}
use lib.ListN.{length}
use Rattle.std.proofs.lemmas.Result.{err_from_is_err_and}
use Rattle.words.specs.Words.{words}
use Rattle.words.specs.Laws.{length_words, words_long}
use Rattle.axioms.specs.BodyLaws.{encoding_kept, encoding_named}
use Rattle.disjointness.specs.TurnLaws.{below_top, turns_start, turn_short, turns_end}
use Rattle.disjointness.specs.PairTurns.{Before, behind}
use Rattle.disjointness.specs.PairLaws.{with_long, with_next, with_stop}
use Rattle.disjointness.proofs.pairs.push_with.Goals as goal

pub loop-j-init : goal.loop-j-init
loop-j-init c = (turns_start c.args.top (Before (words c.args.scratch.now) c.args.top) (behind (words c.args.scratch.now) c.args.top) c.args.k.now c.args.b c.args.y c.args.count (words c.args.scratch.now) (words c.args.clauses.now) (words c.args.atoms.now) c.requires.5, refl, refl, refl)

pub write_alternative-end-requires : goal.write_alternative-end-requires
write_alternative-end-requires c = let L = c.loop-j in
    let e = encoding_kept c.args.scratch.now L.scratch c.args.k.now L.k L.invariant.1 (below_top c.args.top (words c.args.scratch.now) (words L.scratch) c.requires.3 L.invariant.0.frame) L.invariant.0.alike c.requires.0 in
    let q = L.invariant.0.alike.concepts in
    (e.reading.ready, e.rows, encoding_named L.scratch L.k e, omega (arith, q, c.requires.1), omega (arith, c.requires.3), omega (arith, c.requires.2, c.requires.4, L.invariant.1))

pub returns-then-end : goal.returns-then-end
returns-then-end c = let L = c.loop-j in let W = c.write_alternative-end in
    with_long c.args.k.now c.args.top c.args.b c.args.y c.args.count (words c.args.scratch.now) (words c.args.clauses.now) (words c.args.atoms.now) (words L.scratch) (words L.clauses) (words L.atoms) L.k L.j L.invariant.0 c.loop-j-test.true c.requires.3 c.requires.0.reading.ready.held _ W.result W.ensures c.if-end.true

pub overflow_sub-n : goal.overflow_sub-n
overflow_sub-n c = let L = c.loop-j in let W = c.write_alternative-end in
    let sh = turn_short c.args.top (Before (words c.args.scratch.now) c.args.top) (behind (words c.args.scratch.now) c.args.top) c.args.k.now c.args.b c.args.y c.args.count (words c.args.scratch.now) (words c.args.clauses.now) (words c.args.atoms.now) (words L.scratch) (words L.clauses) (words L.atoms) L.k L.j L.invariant.0 c.loop-j-test.true c.requires.3 c.requires.0.reading.ready.held _ W.result W.ensures c.requires.6 in
    omega (arith, sh.0, c.requires.3)

pub overflow_cast-n : goal.overflow_cast-n
overflow_cast-n c = let L = c.loop-j in let W = c.write_alternative-end in
    let sh = turn_short c.args.top (Before (words c.args.scratch.now) c.args.top) (behind (words c.args.scratch.now) c.args.top) c.args.k.now c.args.b c.args.y c.args.count (words c.args.scratch.now) (words c.args.clauses.now) (words c.args.atoms.now) (words L.scratch) (words L.clauses) (words L.atoms) L.k L.j L.invariant.0 c.loop-j-test.true c.requires.3 c.requires.0.reading.ready.held _ W.result W.ensures c.requires.6 in
    omega (arith, sh.0, c.requires.3, c.if-end.false)

pub push_none-requires : goal.push_none-requires
push_none-requires c = let L = c.loop-j in let W = c.write_alternative-end in
    let sh = turn_short c.args.top (Before (words c.args.scratch.now) c.args.top) (behind (words c.args.scratch.now) c.args.top) c.args.k.now c.args.b c.args.y c.args.count (words c.args.scratch.now) (words c.args.clauses.now) (words c.args.atoms.now) (words L.scratch) (words L.clauses) (words L.atoms) L.k L.j L.invariant.0 c.loop-j-test.true c.requires.3 c.requires.0.reading.ready.held _ W.result W.ensures c.requires.6 in
    let h = c.if-end.false in
    let l1 = W.auto.scratch in
    (omega (arith, h), omega (arith, sh.0, h, l1, c.requires.2, c.requires.3, L.invariant.1), L.invariant.0.good, rw (L.invariant.2, L.invariant.3) c.requires.7)

pub returns-in_err-push_none : goal.returns-in_err-push_none
returns-in_err-push_none c = let p = err_from_is_err_and c.from_residual.result c.from_residual.ensures.1 in let L = c.loop-j in let W = c.write_alternative-end in
    let fit : 6 * (c.args.top + 256) ≤ length (words L.scratch) = omega (arith, length_words L.scratch, c.requires.2, c.requires.4, L.invariant.1) in
    rw (p.1, p.2) (with_stop c.args.k.now c.args.top c.args.b c.args.y c.args.count (words c.args.scratch.now) (words c.args.clauses.now) (words c.args.atoms.now) (words L.scratch) (words L.clauses) (words L.atoms) L.k L.j L.invariant.0 c.loop-j-test.true c.requires.3 c.requires.0.reading.ready.held _ W.result W.ensures fit (words_long c.args.clauses.now L.clauses L.invariant.2) (words_long c.args.atoms.now L.atoms L.invariant.3) _ refl c.if-end.false _ _ _ c.in_err-push_none.ensures _ refl)

pub loop-j-preserved : goal.loop-j-preserved
loop-j-preserved c = let L = c.loop-j in let W = c.write_alternative-end in let n = c.push_none in
    let fit : 6 * (c.args.top + 256) ≤ length (words L.scratch) = omega (arith, length_words L.scratch, c.requires.2, c.requires.4, L.invariant.1) in
    (with_next c.args.k.now c.args.top c.args.b c.args.y c.args.count (words c.args.scratch.now) (words c.args.clauses.now) (words c.args.atoms.now) (words L.scratch) (words L.clauses) (words L.atoms) L.k L.j L.invariant.0 c.loop-j-test.true c.requires.3 c.requires.0.reading.ready.held _ W.result W.ensures fit (words_long c.args.clauses.now L.clauses L.invariant.2) (words_long c.args.atoms.now L.atoms L.invariant.3) _ refl c.if-end.false _ _ _ c.in_ok-push_none.ensures _ 0 refl, W.auto.scratch ∙ L.invariant.1, n.auto.clauses ∙ L.invariant.2, n.auto.atoms ∙ L.invariant.3)

pub returns : goal.returns
returns c = let L = c.loop-j in
    turns_end c.args.top (Before (words c.args.scratch.now) c.args.top) (behind (words c.args.scratch.now) c.args.top) c.args.k.now c.args.b c.args.y c.args.count (words c.args.scratch.now) (words c.args.clauses.now) (words c.args.atoms.now) (words L.scratch) (words L.clauses) (words L.atoms) L.k L.j L.invariant.0 c.loop-j-test.false
