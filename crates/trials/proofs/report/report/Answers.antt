use Rattle.states.specs.Test.{verdict_words}
use Rattle.sets.specs.Verdicts.{verdict_in}
use Rattle.trials.specs.Tells.{NumberedAs}
use mathlib.Core.Path.{◌≡◌, sym, ap, subst, ◌∙◌}
use Rattle.std.proofs.Common.{rules}
use Prim.Native.Nat.{ℕ, ◌*◌, ◌≤◌}
use native.Mathlib.Omega.{arith}
use lib.ListN.{length, take, drop, replicate, length-replicate}
use Rattle.words.specs.Words.{words}
use Rattle.words.specs.Laws.{length_words}
use Rattle.rules.specs.Run.{scratch_bytes}
use Rattle.states.specs.Test.{store_table}
use Rattle.trials.specs.Judged.{said_in, tested_as}
use Rattle.trials.specs.Entry.{tried_of}
use Rattle.trials.specs.Stored.{Short}
use Rattle.trials.specs.StoredLaws.{bytes_first, front_numbers, numbered_reply, front_of_zeros, shows_short, store_told, told_verdict}
use Rattle.trials.proofs.report.report.Goals as goal

pub put_front-requires : goal.put_front-requires
put_front-requires c =
    let R = c.requires in
    let z = c.clear.new.s in
    let e = c.clear.ensures in
    let f = front_of_zeros z (length c.args.store.now) e (omega (arith, R.room)) in
    let l : length (take 564 z) ≡ 564 = ap length f ∙ length-replicate {A = ℕ} 564 0 in
    (f ∙ ap (λ (n : ℕ). replicate n 0) (sym l), l, shows_short (words c.args.scratch.now) c.in_ok-v.v (subst (λ x. Short (said_in (words c.args.scratch.now) x)) c.in_ok-v.was R.short) (omega (arith, length_words c.args.scratch.now, R.space)), R.space)

pub returns : goal.returns
returns c =
    let a = c.args in
    let R = c.requires in
    let w = words a.scratch.now in
    let long : scratch_bytes ≤ 4 * length w = omega (arith, length_words a.scratch.now, R.space) in
    let v = c.in_ok-v.v in
    let shows = shows_short w v (subst (λ x. Short (said_in w x)) c.in_ok-v.was R.short) long in
    let z = c.clear.new.s in
    let q = c.put_front in
    let f = front_of_zeros z (length a.store.now) c.clear.ensures (omega (arith, R.room)) in
    let l : length q.new.front ≡ 564 = q.auto.front ∙ ap length f ∙ length-replicate {A = ℕ} 564 0 in record {
      value = (λ x e. told_verdict w v shows long ∙ sym (ap (λ y. tried_of (tested_as x (said_in w y))) c.in_ok-v.was));
      store_after = (λ x t h e. store_told x t a.n.stats a.n.fresh_ids a.n.visits w z q.new.front v e (c.clear.ensures ∙ ap (λ (n : ℕ). replicate n 0) (sym h)) (omega (arith, R.room, h)) l (bytes_first q.new.front (drop 564 z) (λ i. search rules)) q.ensures shows long ∙ sym (ap (λ y. store_table t (tested_as x (said_in w y))) c.in_ok-v.was));
      numbered_as = subst (NumberedAs _ a.n.stats a.n.fresh_ids) (sym (told_verdict w v shows long)) (numbered_reply _ a.n.stats a.n.fresh_ids (verdict_in w v) (front_numbers q.new.front (drop 564 z) (verdict_words (verdict_in w v)) a.n.stats a.n.fresh_ids a.n.visits l q.ensures));
    }
