use mathlib.Core.Path.{◌≡◌, refl, sym, ap, ◌∙◌}
use mathlib.Core.List.{List}
use Prim.Native.Nat.{ℕ, ◌+◌, ◌*◌, ◌-◌}
use native.Mathlib.Omega.{arith}
use lib.ListN.{length, take, drop, length-drop}
use lib.Seq.{sets, sets-eq, length-take-le}
use Rattle.words.specs.Words.{words}
use Rattle.words.specs.Laws.{words_take, words_drop}
use Rattle.words.specs.Runs.{words_sets}
use Rattle.words.proofs.move_words.Goals as goal

pub returns : goal.returns
returns c =
    let a = c.args in
    let b = c.requires in
    let s = a.s.now in
    let k : 4 * (a.from + a.n) - 4 * a.from ≡ 4 * a.n = omega arith in
    let run : List ℕ = take (4 * a.n) (drop (4 * a.from) s) in
    let l : length run ≡ 4 * a.n = length-take-le (4 * a.n) (drop (4 * a.from) s) (rw (length-drop (4 * a.from) s) (omega arith)) in
    let e : c.copy_within.new.self ≡ sets s (4 * a.to) run = c.copy_within.ensures.after ∙ rw k (sym (sets-eq run s (4 * a.to) (omega arith) ∙ rw l refl)) in
    ap words e ∙ words_sets s run a.to (omega arith) (omega arith) ∙ rw (words_take a.n (drop (4 * a.from) s), words_drop a.from s) refl
