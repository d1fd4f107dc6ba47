use native.Mathlib.Omega.{arith}
use mathlib.Core.Path.{◌≡◌, sym, ap, ◌∙◌}
use mathlib.Core.List.{List, [], ◌∷◌, ◌++◌}
use Prim.Native.Nat.{ℕ, suc, ◌+◌}
use lib.ListN.{length, get_or, set, take}
use Rattle.std.proofs.Math.Seq.{take-suc}
use Rattle.std.proofs.lemmas.List.{take_all, length-take-le}
use Rattle.std.proofs.lemmas.List.Edits.{sets}
use Rattle.words.specs.Words.{words}
use Rattle.words.specs.Runs.{sets_snoc}
use Rattle.words.proofs.put_words.Goals as goal

pub loop-i-preserved : goal.loop-i-preserved
loop-i-preserved c =
    let w = words c.args.s.now in
    let at = c.args.at in
    let xs = c.args.xs.now in
    let i = c.loop-i.i in
    let x = get_or xs i 0 in
    let n : length (take i xs) ≡ i = length-take-le i xs (omega (arith, c.loop-i-test.true)) in
    let e : i + 1 ≡ suc i = omega arith in
    let t : take (i + 1) xs ≡ take i xs ++ (x ∷ []) = rw e (take-suc xs i 0 c.loop-i-test.true) in
    let p : set (sets w at (take i xs)) (at + i) x ≡ sets w at (take i xs ++ (x ∷ [])) = rw n at (sets_snoc (take i xs) w at x) in
    c.put_word.ensures ∙ ap (λ (l : List ℕ). set l (at + i) x) c.loop-i.invariant ∙ p ∙ ap (sets w at) (sym t)

pub returns : goal.returns
returns c = c.loop-i.invariant ∙ ap (sets (words c.args.s.now) c.args.at) (take_all c.loop-i.i c.args.xs.now (omega (arith, c.loop-i-test.false)))
