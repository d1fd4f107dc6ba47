use native.Mathlib.Omega.{arith}
use mathlib.Core.Path.{◌≡◌, refl, sym, ap, ◌∙◌}
use mathlib.Core.List.{List, [], ◌∷◌, ◌++◌, append-nil}
use Prim.Native.Nat.{ℕ, suc, ◌+◌, ◌≤◌}
use lib.ListN.{length, get_or, set, take, drop_of_length-le}
use Rattle.std.proofs.Common.{length-set}
use Rattle.std.proofs.Math.Seq.{take-suc}
use Rattle.std.proofs.lemmas.List.{take_all, length-take-le}
use Rattle.std.proofs.lemmas.List.Edits.{sets, sets-eq}
use Rattle.words.specs.Runs.{sets_snoc}
use Rattle.words.proofs.copy.Goals as goal

pub loop-i-preserved : goal.loop-i-preserved
loop-i-preserved c =
    let s = c.args.s.now in
    let run = c.args.run.now in
    let i = c.loop-i.i in
    let x = get_or run i 0 in
    let n : length (take i run) ≡ i = length-take-le i run (omega (arith, c.loop-i-test.true)) in
    let e : i + 1 ≡ suc i = omega arith in
    let z : 0 + i ≡ i = omega arith in
    let t : take (i + 1) run ≡ take i run ++ (x ∷ []) = rw e (take-suc run i 0 c.loop-i-test.true) in
    let p : set (sets s 0 (take i run)) i x ≡ sets s 0 (take i run ++ (x ∷ [])) = rw (n, z) at (sets_snoc (take i run) s 0 x) in
    (ap (λ (l : List ℕ). set l i x) c.loop-i.invariant.0 ∙ p ∙ ap (sets s 0) (sym t), simp length-set c.loop-i.invariant.1)

pub returns : goal.returns
returns c =
    let a = c.args in
    let s = a.s.now in
    let run = a.run.now in
    let all : take c.loop-i.i run ≡ run = take_all c.loop-i.i run (omega (arith, c.loop-i-test.false)) in
    let fits : 0 + length run ≤ length s = omega (arith, c.requires) in
    let past : length s ≤ 0 + length run = omega (arith, c.requires) in
    c.loop-i.invariant.0 ∙ ap (sets s 0) all ∙ sets-eq run s 0 fits ∙ rw (drop_of_length-le s past, append-nil run) refl
