use mathlib.Core.Path.{refl, sym, ap, ◌∙◌}
use mathlib.Core.List.{List}
use Prim.Native.Nat.{ℕ}
use Rattle.std.proofs.lemmas.Result.{err_from_is_err_and}
use Rattle.words.specs.Words.{words}
use Rattle.rules.specs.Axioms.{later_pairs}
use Rattle.lists.specs.TurnLaws.{long_words}
use Rattle.lists.specs.ListTurns.{list_start, list_end, part_next, part_stop}
use Rattle.lists.specs.PairLaws.{later_end}
use Rattle.lists.specs.WordLaws.{left, left_all, left_end, listed_kept, later_turn}
use Rattle.lists.specs.CallLaws.{pair_of}
use Rattle.lists.proofs.disjoints.disjoint.Goals as goal

pub loop-i-init : goal.loop-i-init
loop-i-init c =
    let w = words c.args.scratch.now in (
      list_start (pair_of c.args.deferred) c.args.lent.now.counters c.args.scratch.now (words c.args.lent.now.clauses.now) (words c.args.lent.now.atoms.now) (words c.args.lent.now.deferrals.now) _ _ c.requires.0
          (ap (λ (l : List ℕ). later_pairs l) (sym (left_all w c.args.at c.args.count))),
      refl,
      (refl, refl, refl, refl, refl, refl),
    )

pub disjoint_with-requires : goal.disjoint_with-requires
disjoint_with-requires c =
    let L = c.loop-i in
    let T = L.invariant.0 in
    let M = listed_kept (words c.args.scratch.now) (words L.scratch) T.passed.untouched c.args.lent.now.counters L.lent.counters c.args.at c.args.count T.passed.onward c.requires.1 in
    (T.clausifying, M, c.loop-i-test.true)

pub returns-in_err-disjoint_with-clause-fact : goal.returns-in_err-disjoint_with-clause-fact
returns-in_err-disjoint_with-clause-fact c =
    let p = err_from_is_err_and c.from_residual.result c.from_residual.ensures.1 in
    let L = c.loop-i in
    let T = L.invariant.0 in
    let r = c.disjoint_with in
    let h = c.loop-i-test.true in
    let w = words c.args.scratch.now in
    let N = c.requires.1 in
    let q = later_turn w (words L.scratch) T.passed.untouched c.args.at c.args.count N.above N.below L.i h in
    rw (p.1, p.2) (part_stop (pair_of c.args.deferred) _ c.args.lent.now.counters L.lent.counters _ L.scratch (words L.lent.clauses.now) (words L.lent.atoms.now) (words L.lent.deferrals.now) _ T _ _ _ _ _ _ _ q (c.in_err-disjoint_with.ensures.fact, c.in_err-disjoint_with.ensures.clausifying_after) _ refl)

pub loop-i-preserved : goal.loop-i-preserved
loop-i-preserved c =
    let L = c.loop-i in
    let S = L.invariant.2 in
    let T = L.invariant.0 in
    let r = c.disjoint_with in let R = r.ensures.references in
    let h = c.loop-i-test.true in
    let w = words c.args.scratch.now in
    let N = c.requires.1 in
    let q = later_turn w (words L.scratch) T.passed.untouched c.args.at c.args.count N.above N.below L.i h in (
      part_next (pair_of c.args.deferred) _ c.args.lent.now.counters L.lent.counters _ L.scratch (words L.lent.clauses.now) (words L.lent.atoms.now) (words L.lent.deferrals.now) _ T _ _ _ _ _ _ _ q (c.in_ok-disjoint_with.ensures.fact, c.in_ok-disjoint_with.ensures.clausifying_after) (long_words _ _ L.lent.clauses.now L.lent.atoms.now L.lent.deferrals.now _ _ _ R.3 R.4 R.5) _ 0 refl,
      r.auto.scratch ∙ L.invariant.1,
      (R.0 ∙ S.0, R.1 ∙ S.1, R.2 ∙ S.2, R.3 ∙ S.3, R.4 ∙ S.4, R.5 ∙ S.5),
    )

pub returns : goal.returns
returns c =
    let L = c.loop-i in
    let w = words c.args.scratch.now in let both = list_end (pair_of c.args.deferred) _ c.args.lent.now.counters L.lent.counters _ L.scratch (words L.lent.clauses.now) (words L.lent.atoms.now) (words L.lent.deferrals.now) _ L.invariant.0
    (later_end (left w c.args.at c.args.count L.i) (left_end w c.args.at c.args.count L.i c.loop-i-test.false)) in record { references = L.invariant.2; fact = both.0; clausifying_after = both.1 }
