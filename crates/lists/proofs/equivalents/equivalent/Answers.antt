use mathlib.Core.Path.{refl, sym, ap, ◌∙◌}
use mathlib.Core.List.{List}
use Prim.Native.Nat.{ℕ}
use Rattle.std.proofs.lemmas.Result.{err_from_is_err_and}
use Rattle.words.specs.Words.{words}
use Rattle.rules.specs.Axioms.{numbered, ordered_from}
use Rattle.pool.specs.Layout.{run}
use Rattle.lists.specs.TurnLaws.{long_words}
use Rattle.lists.specs.QueueTurns.{queue_start, queue_end, queue_part, queue_part_stop}
use Rattle.lists.specs.PairLaws.{ordered_end}
use Rattle.lists.specs.WordLaws.{left, left_all, left_end, listed_kept, ordered_turn}
use Rattle.lists.specs.CallLaws.{gci_of}
use Rattle.lists.proofs.equivalents.equivalent.Goals as goal

pub loop-i-init : goal.loop-i-init
loop-i-init c =
    let w = words c.args.scratch.now in (
      queue_start gci_of c.args.lent.now.counters c.args.scratch.now (words c.args.lent.now.clauses.now) (words c.args.lent.now.atoms.now) (words c.args.lent.now.deferrals.now) _ _ c.requires.0
          (ap (λ (l : List ℕ). ordered_from (numbered 0 l) (numbered 0 (run w c.args.at c.args.count))) (sym (left_all w c.args.at c.args.count))),
      refl,
      (refl, refl, refl, refl, refl, refl),
    )

pub equivalent_to-requires : goal.equivalent_to-requires
equivalent_to-requires c =
    let L = c.loop-i in
    let T = L.invariant.0 in
    let M = listed_kept (words c.args.scratch.now) (words L.scratch) T.turned.passed.untouched c.args.lent.now.counters L.lent.counters c.args.at c.args.count T.turned.passed.onward c.requires.1 in
    (T.turned.clausifying, M, c.loop-i-test.true)

pub returns-in_err-equivalent_to-clause-clausified : goal.returns-in_err-equivalent_to-clause-clausified
returns-in_err-equivalent_to-clause-clausified c =
    let p = err_from_is_err_and c.from_residual.result c.from_residual.ensures.1 in
    let L = c.loop-i in
    let T = L.invariant.0 in
    let r = c.equivalent_to in
    let h = c.loop-i-test.true in
    let w = words c.args.scratch.now in
    let N = c.requires.1 in
    let q = ordered_turn w (words L.scratch) T.turned.passed.untouched c.args.at c.args.count N.above N.below L.i h (numbered 0 (run w c.args.at c.args.count)) refl in
    rw (p.1, p.2) (queue_part_stop gci_of _ c.args.lent.now.counters L.lent.counters _ L.scratch (words L.lent.clauses.now) (words L.lent.atoms.now) (words L.lent.deferrals.now) _ T _ _ _ _ _ _ _ q (c.in_err-equivalent_to.ensures.clausified, c.in_err-equivalent_to.ensures.clausifying_after) _ refl)

pub loop-i-preserved : goal.loop-i-preserved
loop-i-preserved c =
    let L = c.loop-i in
    let S = L.invariant.2 in
    let T = L.invariant.0 in
    let r = c.equivalent_to in let R = r.ensures.references in
    let h = c.loop-i-test.true in
    let w = words c.args.scratch.now in
    let N = c.requires.1 in
    let q = ordered_turn w (words L.scratch) T.turned.passed.untouched c.args.at c.args.count N.above N.below L.i h (numbered 0 (run w c.args.at c.args.count)) refl in (
      queue_part gci_of _ c.args.lent.now.counters L.lent.counters _ L.scratch (words L.lent.clauses.now) (words L.lent.atoms.now) (words L.lent.deferrals.now) _ T _ _ _ _ _ _ _ q (c.in_ok-equivalent_to.ensures.clausified, c.in_ok-equivalent_to.ensures.clausifying_after) (long_words _ _ L.lent.clauses.now L.lent.atoms.now L.lent.deferrals.now _ _ _ R.3 R.4 R.5) _ 0 refl,
      r.auto.scratch ∙ L.invariant.1,
      (R.0 ∙ S.0, R.1 ∙ S.1, R.2 ∙ S.2, R.3 ∙ S.3, R.4 ∙ S.4, R.5 ∙ S.5),
    )

pub returns : goal.returns
returns c =
    let L = c.loop-i in
    let w = words c.args.scratch.now in let both = queue_end gci_of _ c.args.lent.now.counters L.lent.counters _ L.scratch (words L.lent.clauses.now) (words L.lent.atoms.now) (words L.lent.deferrals.now) _ L.invariant.0
    (ordered_end L.i (left w c.args.at c.args.count L.i) (numbered 0 (run w c.args.at c.args.count)) (left_end w c.args.at c.args.count L.i c.loop-i-test.false)) in record { references = L.invariant.2; clausified = both.0; clausifying_after = both.1 }
