use mathlib.Core.Path.{refl, sym, ap, ◌∙◌}
use mathlib.Core.List.{List, []}
use Prim.Native.Nat.{ℕ, ◌+◌}
use native.Mathlib.Omega.{arith}
use lib.ListN.{get_or}
use Rattle.std.proofs.lemmas.Result.{err_from_is_err_and}
use Rattle.words.specs.Words.{words}
use Rattle.rules.specs.Axioms.{paired}
use Rattle.lists.specs.TurnLaws.{long_words}
use Rattle.lists.specs.ListTurns.{list_start, list_end, list_next, list_stop}
use Rattle.lists.specs.PairLaws.{paired_end}
use Rattle.lists.specs.WordLaws.{left, left_after, left_end, listed_kept, word_read, pair_next}
use Rattle.lists.specs.CallLaws.{pair_of, pair_turn}
use Rattle.lists.proofs.disjoints.disjoint_with.Goals as goal

pub loop-j-init : goal.loop-j-init
loop-j-init c =
    let w = words c.args.scratch.now in (
      list_start (pair_of c.args.deferred) c.args.lent.now.counters c.args.scratch.now (words c.args.lent.now.clauses.now) (words c.args.lent.now.atoms.now) (words c.args.lent.now.deferrals.now) _ _ c.requires.0
          (ap (λ (l : List ℕ). paired (get_or w (c.args.at + c.args.i) 0) l []) (sym (left_after w c.args.at c.args.count c.args.i))),
      refl,
      (refl, refl, refl, refl, refl, refl),
    )

pub disjoint_pair-requires : goal.disjoint_pair-requires
disjoint_pair-requires c =
    let L = c.loop-j in
    let T = L.invariant.0 in
    let M = listed_kept (words c.args.scratch.now) (words L.scratch) T.passed.untouched c.args.lent.now.counters L.lent.counters c.args.at c.args.count T.passed.onward c.requires.1 in
    let a = c.get_word-a.ensures in
    let b = c.get_word-b.ensures in
    let h = c.loop-j-test.true in
    (T.clausifying.encoding, omega (arith, a, c.requires.1.ids c.args.i c.requires.2, T.passed.onward.concepts), omega (arith, b, M.ids L.j h), omega (arith, T.clausifying.space), T.clausifying.good)

pub returns-in_err-disjoint_pair-clause-fact : goal.returns-in_err-disjoint_pair-clause-fact
returns-in_err-disjoint_pair-clause-fact c =
    let p = err_from_is_err_and c.from_residual.result c.from_residual.ensures.1 in
    let L = c.loop-j in
    let T = L.invariant.0 in
    let r = c.disjoint_pair in
    let h = c.loop-j-test.true in
    let w = words c.args.scratch.now in
    let N = c.requires.1 in
    let a = c.get_word-a.ensures in
    let b = word_read w (words L.scratch) T.passed.untouched c.args.at c.args.count N.above N.below L.j c.get_word-b.result h c.get_word-b.ensures in
    let q = pair_next w c.args.at c.args.count L.j c.get_word-a.result (get_or w (c.args.at + c.args.i) 0) c.get_word-b.result h a b in
    let D = pair_turn L.lent.counters L.scratch (words L.lent.clauses.now) (words L.lent.atoms.now) (words L.lent.deferrals.now) _ _ _ _ _ T.clausifying r.auto.scratch c.args.deferred c.get_word-a.result c.get_word-b.result c.in_err-disjoint_pair.ensures.did in
    rw (p.1, p.2) (list_stop (pair_of c.args.deferred) _ c.args.lent.now.counters L.lent.counters _ L.scratch (words L.lent.clauses.now) (words L.lent.atoms.now) (words L.lent.deferrals.now) _ T _ _ _ _ _ (c.get_word-a.result, c.get_word-b.result) _ q D _ refl)

pub loop-j-preserved : goal.loop-j-preserved
loop-j-preserved c =
    let L = c.loop-j in
    let S = L.invariant.2 in
    let T = L.invariant.0 in
    let r = c.disjoint_pair in let R = r.ensures.references in
    let h = c.loop-j-test.true in
    let w = words c.args.scratch.now in
    let N = c.requires.1 in
    let a = c.get_word-a.ensures in
    let b = word_read w (words L.scratch) T.passed.untouched c.args.at c.args.count N.above N.below L.j c.get_word-b.result h c.get_word-b.ensures in
    let q = pair_next w c.args.at c.args.count L.j c.get_word-a.result (get_or w (c.args.at + c.args.i) 0) c.get_word-b.result h a b in
    let D = pair_turn L.lent.counters L.scratch (words L.lent.clauses.now) (words L.lent.atoms.now) (words L.lent.deferrals.now) _ _ _ _ _ T.clausifying r.auto.scratch c.args.deferred c.get_word-a.result c.get_word-b.result c.in_ok-disjoint_pair.ensures.did in (
      list_next (pair_of c.args.deferred) _ c.args.lent.now.counters L.lent.counters _ L.scratch (words L.lent.clauses.now) (words L.lent.atoms.now) (words L.lent.deferrals.now) _ T _ _ _ _ _ (c.get_word-a.result, c.get_word-b.result) _ q D (long_words _ _ L.lent.clauses.now L.lent.atoms.now L.lent.deferrals.now _ _ _ R.3 R.4 R.5) _ 0 refl,
      r.auto.scratch ∙ L.invariant.1,
      (R.0 ∙ S.0, R.1 ∙ S.1, R.2 ∙ S.2, R.3 ∙ S.3, R.4 ∙ S.4, R.5 ∙ S.5),
    )

pub returns : goal.returns
returns c =
    let L = c.loop-j in
    let w = words c.args.scratch.now in let both = list_end (pair_of c.args.deferred) _ c.args.lent.now.counters L.lent.counters _ L.scratch (words L.lent.clauses.now) (words L.lent.atoms.now) (words L.lent.deferrals.now) _ L.invariant.0
    (paired_end (get_or w (c.args.at + c.args.i) 0) (left w c.args.at c.args.count L.j) (left_end w c.args.at c.args.count L.j c.loop-j-test.false)) in record { references = L.invariant.2; fact = both.0; clausifying_after = both.1 }
