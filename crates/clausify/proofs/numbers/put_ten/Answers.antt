use Rattle.std.specs.Prelude.{◌≡◌, refl, List, ℕ, ◌+◌, ◌<◌, length, get_or, set, take}
use Rattle.std.proofs.Common.{sym, ap, ◌∙◌, arith, add-one, take-suc, length-take-le}
use Rattle.std.proofs.lemmas.List.Edits.{sets}
use Rattle.words.specs.Words.{words}
use Rattle.words.specs.Runs.{sets_snoc}
use Rattle.clausify.specs.Answer.{ten_of}
use Rattle.clausify.proofs.numbers.put_ten.Goals as goal

stored : (w l : List ℕ) (i : ℕ) → i < length l → set (sets w 0 (take i l)) i (get_or l i 0) ≡ sets w 0 (take (i + 1) l)
stored w l i h =
    let e : 0 + length (take i l) ≡ i = omega (arith, length-take-le i l (omega arith)) in
    ap (λ (j : ℕ). set (sets w 0 (take i l)) j (get_or l i 0)) (sym e)
    ∙ sets_snoc (take i l) w 0 (get_or l i 0)
    ∙ ap (λ (m : List ℕ). sets w 0 m) (sym (ap (λ (j : ℕ). take j l) (add-one i) ∙ take-suc l i 0 h))

pub loop-i-preserved : goal.loop-i-preserved
loop-i-preserved c =
    let a = c.args in
    let l = ten_of a.n.stats a.n.fresh_ids a.n.visits in
    let L = c.loop-i in
    c.put_word.ensures
    ∙ ap (λ (m : List ℕ). set (words L.numbers) L.i (get_or m L.i 0)) c.words.ensures
    ∙ ap (λ (w : List ℕ). set w L.i (get_or l L.i 0)) L.invariant
    ∙ stored (words a.numbers.now) l L.i c.loop-i-test.true

pub returns : goal.returns
returns c =
    let a = c.args in
    let L = c.loop-i in
    let e : L.i ≡ 10 = omega (arith, L.auto.i-end, c.loop-i-test.false) in
    L.invariant ∙ ap (λ (i : ℕ). sets (words a.numbers.now) 0 (take i (ten_of a.n.stats a.n.fresh_ids a.n.visits))) e
