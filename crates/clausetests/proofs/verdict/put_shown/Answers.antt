use Rattle.std.proofs.Common.{◌≡◌, ℕ, ◌+◌, List, length, get_or, take, set, refl, sym, ap, ◌∙◌, length-take, arith, rules}
use Rattle.std.proofs.lemmas.List.{take_more, take_all}
use Rattle.std.proofs.lemmas.List.Edits.{sets}
use Rattle.words.specs.Words.{words}
use Rattle.words.specs.Laws.{length_words}
use Rattle.words.specs.Runs.{sets_snoc}
use Rattle.sets.specs.Places.{shown_at}
use Rattle.clausetests.proofs.VerdictLaws.{shown_put, shown_changed}
use Rattle.clausetests.proofs.verdict.put_shown.Goals as goal

pub loop-i-init : goal.loop-i-init
loop-i-init c = (search rules, refl)

pub loop-i-preserved : goal.loop-i-preserved
loop-i-preserved c =
    let L = c.loop-i in
    let l = c.args.found in
    let w = words c.args.scratch.now in
    let e : length (take L.i l) ≡ L.i = omega (arith, length-take L.i l, L.invariant.0) in (
      L.invariant.0,
      c.put_word.ensures ∙ ap (λ (v : List ℕ). set v (shown_at + L.i) (get_or l L.i 0)) L.invariant.1
          ∙ ap (λ (k : ℕ). set (sets w shown_at (take L.i l)) (shown_at + k) (get_or l L.i 0)) (sym e)
          ∙ sets_snoc (take L.i l) w shown_at (get_or l L.i 0) ∙ ap (sets w shown_at) (sym (take_more l L.i 0 (omega (arith, L.invariant.0)))),
    )

pub returns : goal.returns
returns c =
    let L = c.loop-i in
    let l = c.args.found in
    let w = words c.args.scratch.now in
    let i : L.i ≡ 4 = omega arith in
    let e : words L.scratch ≡ sets w shown_at l = L.invariant.1 ∙ ap (λ (k : ℕ). sets w shown_at (take k l)) (i ∙ sym L.invariant.0) ∙ ap (sets w shown_at) (take_all (length l) l (omega arith)) in
    record {
      by_index = shown_put w _ l L.invariant.0 e (omega (arith, length_words c.args.scratch.now, c.requires));
      changed = shown_changed w _ l L.invariant.0 e;
    }
