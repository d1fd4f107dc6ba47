use native.Mathlib.Omega.{arith}
use borrow.Author.Tests.{eqb-true, eqb-false, eq-eqb, ne_eqb, lt-ltb}
use mathlib.Core.Path.{◌≡◌, sym, ◌∙◌}
use Prim.Native.Nat.{ℕ, ◌-◌, ◌≤◌}
use lib.Dec.{eqb}
use lib.ListN.{length, drop, length-drop}
use Rattle.meaning.specs.Truth.{by_truth}
use Rattle.layouts.specs.Numbers.{numbers}
use Rattle.layouts.proofs.NumberLaws.{count_is}
use Rattle.layouts.proofs.check.rest_ok.Goals as goal

three : (n x : ℕ) → 2 ≤ n → x ≡ n - 2 → eqb n 3 ≡ eqb x 1
three n x h e = by_truth (eqb x 1)
    (λ q. let z = eqb-true x 1 q in eq-eqb n 3 (omega arith) ∙ sym q)
    (λ q. ne_eqb n 3 (λ z. eqb-false x 1 q (omega arith)) ∙ sym q)

pub returns-then-i-m-2 : goal.returns-then-i-m-2
returns-then-i-m-2 c =
    let r = numbers c.args.line.now in
    let l : length r ≡ c.args.line.now.count = count_is c.args.line.now in
    let d : length (drop 2 r) ≡ length r - 2 = length-drop 2 r in
    rw (ne_eqb _ _ c.if-k-eq51.false, ne_eqb _ _ c.if-k-eq52.false, lt-ltb _ _ c.if-i-m-2.true) (three c.args.line.now.count (length (drop 2 r)) c.requires (omega (arith, l, d)))
