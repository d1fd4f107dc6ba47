use Prim.Native.Nat.{◌+◌, ◌*◌, ◌≤◌}
use mathlib.Core.Path.{refl, ◌∙◌}
use native.Mathlib.Omega.{arith}
use lib.ListN.{length}
use Rattle.std.proofs.lemmas.Result.{err_from_is_err_and}
use Rattle.words.specs.Words.{words}
use Rattle.words.specs.Laws.{length_words, words_long}
use Rattle.axioms.specs.BodyLaws.{encoding_kept, encoding_named}
use Rattle.disjointness.specs.Turns.{Has}
use Rattle.disjointness.specs.TurnLaws.{sourced_kept, turns_start, turn_short, written_frame, turns_end}
use Rattle.disjointness.specs.PairTurns.{before}
use Rattle.disjointness.specs.PairLaws.{pairs_next, pairs_stop}
use Rattle.disjointness.proofs.pairs.push_pairs.Goals as goal

pub loop-i-init : goal.loop-i-init
loop-i-init c = (turns_start 13500 (λ env. Has env (words c.args.scratch.now) c.args.k.now c.args.b c.args.y c.args.others) (before (words c.args.scratch.now) c.args.k.now c.args.b c.args.y c.args.others) c.args.k.now c.args.a 1 c.args.count (words c.args.scratch.now) (words c.args.clauses.now) (words c.args.atoms.now) c.requires.4, refl, refl, refl)

pub write_alternative-top-requires : goal.write_alternative-top-requires
write_alternative-top-requires c = let L = c.loop-i in
    let e = encoding_kept c.args.scratch.now L.scratch c.args.k.now L.k L.invariant.1 L.invariant.0.frame L.invariant.0.alike c.requires.0 in
    let q = L.invariant.0.alike.concepts in
    (e.reading.ready, e.rows, encoding_named L.scratch L.k e, omega (arith, q, c.requires.1), omega arith, omega (arith, c.requires.3, L.invariant.1))

pub push_with-requires : goal.push_with-requires
push_with-requires c = let L = c.loop-i in let W = c.write_alternative-top in
    let sh = turn_short 13500 (λ env. Has env (words c.args.scratch.now) c.args.k.now c.args.b c.args.y c.args.others) (before (words c.args.scratch.now) c.args.k.now c.args.b c.args.y c.args.others) c.args.k.now c.args.a 1 c.args.count (words c.args.scratch.now) (words c.args.clauses.now) (words c.args.atoms.now) (words L.scratch) (words L.clauses) (words L.atoms) L.k L.i L.invariant.0 c.loop-i-test.true (omega arith) c.requires.0.reading.ready.held _ W.result W.ensures c.requires.5 in
    let f = written_frame 13500 (λ env. Has env (words c.args.scratch.now) c.args.k.now c.args.b c.args.y c.args.others) (before (words c.args.scratch.now) c.args.k.now c.args.b c.args.y c.args.others) c.args.k.now c.args.a 1 c.args.count (words c.args.scratch.now) (words c.args.clauses.now) (words c.args.atoms.now) (words L.scratch) (words L.clauses) (words L.atoms) L.k L.i L.invariant.0 c.loop-i-test.true (omega arith) c.requires.0.reading.ready.held _ W.result W.ensures in
    let l1 = W.auto.scratch in
    let q = L.invariant.0.alike.concepts in
    (encoding_kept c.args.scratch.now _ c.args.k.now L.k (l1 ∙ L.invariant.1) f L.invariant.0.alike c.requires.0, omega (arith, q, c.requires.2), omega (arith, l1, c.requires.3, L.invariant.1), sh.0, sh.1, L.invariant.0.good, sourced_kept (words c.args.scratch.now) _ c.args.k.now L.k c.args.b c.args.y c.args.others f L.invariant.0.alike c.requires.0.reading.ready.held c.requires.6, rw (L.invariant.2, L.invariant.3) c.requires.7)

pub returns-in_err-push_with : goal.returns-in_err-push_with
returns-in_err-push_with c = let p = err_from_is_err_and c.from_residual.result c.from_residual.ensures.1 in let L = c.loop-i in let W = c.write_alternative-top in
    let fit : 6 * (13500 + 256) ≤ length (words L.scratch) = omega (arith, length_words L.scratch, c.requires.3, L.invariant.1) in
    let sh = turn_short 13500 (λ env. Has env (words c.args.scratch.now) c.args.k.now c.args.b c.args.y c.args.others) (before (words c.args.scratch.now) c.args.k.now c.args.b c.args.y c.args.others) c.args.k.now c.args.a 1 c.args.count (words c.args.scratch.now) (words c.args.clauses.now) (words c.args.atoms.now) (words L.scratch) (words L.clauses) (words L.atoms) L.k L.i L.invariant.0 c.loop-i-test.true (omega arith) c.requires.0.reading.ready.held _ W.result W.ensures c.requires.5 in
    rw (p.1, p.2) (pairs_stop c.args.k.now c.args.a c.args.count c.args.b c.args.others c.args.y (words c.args.scratch.now) (words c.args.clauses.now) (words c.args.atoms.now) (words L.scratch) (words L.clauses) (words L.atoms) L.k L.i L.invariant.0 c.loop-i-test.true c.requires.0.reading.ready.held _ W.result W.ensures fit (words_long c.args.clauses.now L.clauses L.invariant.2) (words_long c.args.atoms.now L.atoms L.invariant.3) _ _ _ _ sh.0 c.in_err-push_with.ensures _ refl)

pub loop-i-preserved : goal.loop-i-preserved
loop-i-preserved c = let L = c.loop-i in let W = c.write_alternative-top in let n = c.push_with in
    let fit : 6 * (13500 + 256) ≤ length (words L.scratch) = omega (arith, length_words L.scratch, c.requires.3, L.invariant.1) in
    let sh = turn_short 13500 (λ env. Has env (words c.args.scratch.now) c.args.k.now c.args.b c.args.y c.args.others) (before (words c.args.scratch.now) c.args.k.now c.args.b c.args.y c.args.others) c.args.k.now c.args.a 1 c.args.count (words c.args.scratch.now) (words c.args.clauses.now) (words c.args.atoms.now) (words L.scratch) (words L.clauses) (words L.atoms) L.k L.i L.invariant.0 c.loop-i-test.true (omega arith) c.requires.0.reading.ready.held _ W.result W.ensures c.requires.5 in
    (pairs_next c.args.k.now c.args.a c.args.count c.args.b c.args.others c.args.y (words c.args.scratch.now) (words c.args.clauses.now) (words c.args.atoms.now) (words L.scratch) (words L.clauses) (words L.atoms) L.k L.i L.invariant.0 c.loop-i-test.true c.requires.0.reading.ready.held _ W.result W.ensures fit (words_long c.args.clauses.now L.clauses L.invariant.2) (words_long c.args.atoms.now L.atoms L.invariant.3) _ _ _ _ sh.0 c.in_ok-push_with.ensures _ 0 refl, n.auto.scratch ∙ W.auto.scratch ∙ L.invariant.1, n.auto.clauses ∙ L.invariant.2, n.auto.atoms ∙ L.invariant.3)

pub returns : goal.returns
returns c = let L = c.loop-i in
    turns_end 13500 (λ env. Has env (words c.args.scratch.now) c.args.k.now c.args.b c.args.y c.args.others) (before (words c.args.scratch.now) c.args.k.now c.args.b c.args.y c.args.others) c.args.k.now c.args.a 1 c.args.count (words c.args.scratch.now) (words c.args.clauses.now) (words c.args.atoms.now) (words L.scratch) (words L.clauses) (words L.atoms) L.k L.i L.invariant.0 c.loop-i-test.false
