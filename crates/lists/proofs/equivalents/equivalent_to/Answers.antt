use mathlib.Core.Path.{refl, sym, ap, ◌∙◌}
use mathlib.Core.List.{List, []}
use Prim.Native.Nat.{ℕ, ◌+◌}
use native.Mathlib.Omega.{arith}
use lib.ListN.{get_or}
use Rattle.std.proofs.lemmas.Result.{err_from_is_err_and}
use Rattle.words.specs.Words.{words}
use Rattle.rules.specs.Axioms.{numbered, with_others}
use Rattle.lists.specs.TurnLaws.{long_words}
use Rattle.lists.specs.QueueTurns.{queue_start, queue_end, queue_skip, queue_next, queue_stop}
use Rattle.lists.specs.PairLaws.{others_end}
use Rattle.lists.specs.WordLaws.{left, left_all, left_end, listed_kept, word_read, other_next, other_skip}
use Rattle.lists.specs.CallLaws.{gci_of}
use Rattle.lists.proofs.equivalents.equivalent_to.Goals as goal
use Rattle.lists.proofs.equivalents.equivalent_to.Goals.{then-i-j+in_ok-clausify_gci, else-i-j}

pub loop-j-init : goal.loop-j-init
loop-j-init c =
    let w₀ = words c.args.scratch.now in (
      queue_start gci_of c.args.lent.now.counters c.args.scratch.now (words c.args.lent.now.clauses.now) (words c.args.lent.now.atoms.now) (words c.args.lent.now.deferrals.now) _ _ c.requires.0
          (ap (λ (l : List ℕ). with_others (c.args.i, get_or w₀ (c.args.at + c.args.i) 0) (numbered 0 l) []) (sym (left_all w₀ c.args.at c.args.count))),
      refl,
      (refl, refl, refl, refl, refl, refl),
    )

pub clausify_gci-requires : goal.clausify_gci-requires
clausify_gci-requires c =
    let L = c.loop-j in
    let T = L.invariant.0 in
    let M = listed_kept (words c.args.scratch.now) (words L.scratch) T.turned.passed.untouched c.args.lent.now.counters L.lent.counters c.args.at c.args.count T.turned.passed.onward c.requires.1 in
    let a = c.get_word-sub.ensures in
    let b = c.get_word-sup.ensures in
    let h = c.loop-j-test.true in
    (T.turned.clausifying, omega (arith, a, c.requires.1.ids c.args.i c.requires.2, T.turned.passed.onward.concepts), omega (arith, b, M.ids L.j h))

pub returns-in_err-clausify_gci-clause-clausified : goal.returns-in_err-clausify_gci-clause-clausified
returns-in_err-clausify_gci-clause-clausified c =
    let p = err_from_is_err_and c.from_residual.result c.from_residual.ensures.1 in
    let L = c.loop-j in
    let T = L.invariant.0 in
    let h = c.loop-j-test.true in
    let w₀ = words c.args.scratch.now in
    let N = c.requires.1 in
    let r = c.clausify_gci in
    let a = c.get_word-sub.ensures in
    let b = word_read w₀ (words L.scratch) T.turned.passed.untouched c.args.at c.args.count N.above N.below L.j c.get_word-sup.result h c.get_word-sup.ensures in
    let q = other_next w₀ c.args.at c.args.count L.j c.get_word-sub.result (get_or w₀ (c.args.at + c.args.i) 0) c.get_word-sup.result h a b c.args.i c.if-i-j.true in
    rw (p.1, p.2) (queue_stop gci_of _ c.args.lent.now.counters L.lent.counters _ L.scratch (words L.lent.clauses.now) (words L.lent.atoms.now) (words L.lent.deferrals.now) _ T _ _ _ _ _ (c.get_word-sub.result, c.get_word-sup.result) _ q (c.in_err-clausify_gci.ensures.clausified, c.in_err-clausify_gci.ensures.clausifying_after) _ refl)

pub loop-j-preserved : goal.loop-j-preserved
loop-j-preserved c =
    let L = c.loop-j in
    let S = L.invariant.2 in
    let T = L.invariant.0 in
    let h = c.loop-j-test.true in
    let w₀ = words c.args.scratch.now in
    let N = c.requires.1 in
    elim c.if-i-j.branch [
      | then-i-j+in_ok-clausify_gci w ↦ rw (w.scratch-is, w.lent-is) (
          let r = w.clausify_gci in let R = r.ensures.references in
          let a = c.get_word-sub.ensures in
          let b = word_read w₀ (words L.scratch) T.turned.passed.untouched c.args.at c.args.count N.above N.below L.j w.get_word-sup.result h w.get_word-sup.ensures in
          let q = other_next w₀ c.args.at c.args.count L.j c.get_word-sub.result (get_or w₀ (c.args.at + c.args.i) 0) w.get_word-sup.result h a b c.args.i w.if-i-j.true in (
            queue_next gci_of _ c.args.lent.now.counters L.lent.counters _ L.scratch (words L.lent.clauses.now) (words L.lent.atoms.now) (words L.lent.deferrals.now) _ T _ _ _ _ _ (c.get_word-sub.result, w.get_word-sup.result) _ q (w.in_ok-clausify_gci.ensures.clausified, w.in_ok-clausify_gci.ensures.clausifying_after) (long_words _ _ L.lent.clauses.now L.lent.atoms.now L.lent.deferrals.now _ _ _ R.3 R.4 R.5) _ 0 refl,
            r.auto.scratch ∙ L.invariant.1,
            (R.0 ∙ S.0, R.1 ∙ S.1, R.2 ∙ S.2, R.3 ∙ S.3, R.4 ∙ S.4, R.5 ∙ S.5),
          ))
      | else-i-j w ↦ rw (w.scratch-is, w.lent-is) (
        queue_skip gci_of _ c.args.lent.now.counters L.lent.counters _ L.scratch (words L.lent.clauses.now) (words L.lent.atoms.now) (words L.lent.deferrals.now) _ T _ (other_skip w₀ c.args.at c.args.count L.j c.args.i (get_or w₀ (c.args.at + c.args.i) 0) h w.if-i-j.false),
        L.invariant.1,
        S,
      )
    ]

pub returns : goal.returns
returns c =
    let L = c.loop-j in
    let w₀ = words c.args.scratch.now in let both = queue_end gci_of _ c.args.lent.now.counters L.lent.counters _ L.scratch (words L.lent.clauses.now) (words L.lent.atoms.now) (words L.lent.deferrals.now) _ L.invariant.0
    (others_end (c.args.i, get_or w₀ (c.args.at + c.args.i) 0) L.j (left w₀ c.args.at c.args.count L.j) (left_end w₀ c.args.at c.args.count L.j c.loop-j-test.false)) in record { references = L.invariant.2; clausified = both.0; clausifying_after = both.1 }
