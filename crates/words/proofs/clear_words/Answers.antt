use mathlib.Core.Path.{◌≡◌, refl, ap, ◌∙◌}
use mathlib.Core.List.{List}
use Prim.Native.Nat.{ℕ, ◌+◌, ◌*◌, ◌-◌}
use native.Mathlib.Omega.{arith}
use lib.ListN.{length, replicate}
use lib.Seq.{sets}
use borrow.Rule.Slice.PartMut.{mid_of, mid_len}
use Rattle.words.specs.Words.{words}
use Rattle.words.specs.Laws.{words_zeros}
use Rattle.words.proofs.Parts.{back_words}
use Rattle.words.proofs.clear_words.Goals as goal

pub returns : goal.returns
returns c =
    let a = c.args in
    let m : length (mid_of (4 * a.at) (4 * (a.at + a.n) - 4 * a.at) a.s.now) ≡ 4 * (a.at + a.n) - 4 * a.at = mid_len (4 * a.at) (4 * (a.at + a.n)) a.s.now c.requires in
    let e : 4 * (a.at + a.n) - 4 * a.at ≡ 4 * a.n = omega arith in
    let z : c.fill.new.self ≡ replicate (4 * a.n) 0 = c.fill.ensures.after (λ y h. h) ∙ rw (m, e) refl in
    back_words a.at (a.at + a.n) a.s.now c.fill.new.self (omega arith) c.requires (c.fill.ensures.len ∙ m)
    ∙ ap (λ (y : List ℕ). sets (words a.s.now) a.at y) (ap words z ∙ words_zeros a.n)
