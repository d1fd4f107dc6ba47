use mathlib.Core.Bool.{true, false}
use mathlib.Core.Path.{◌≡◌, refl, sym}
use Prim.Native.Nat.{◌+◌, ◌-◌}
use native.Mathlib.Omega.{arith}
use lib.ListN.{length, get_or}
use borrow.Author.Tests.{tests}
use Rattle.std.proofs.Common.{rules}
use Rattle.std.proofs.lemmas.Iterator.{YieldsList-from_range, cases_from_any}
use Rattle.words.specs.Words.{words}
use Rattle.ir.specs.Records.{same_atom}
use Rattle.tables.specs.AtomLaws.{no_atom, flat_nth}
use Rattle.contraction.specs.InHands.{hand_at}
use Rattle.contraction.specs.SameLaws.{record_same}
use Rattle.contraction.specs.SearchLaws.{Tested, any_up}
use Rattle.contraction.proofs.contract.in_body.Goals as goal

pub returns : goal.returns
returns c =
    let a = c.args in
    let w = words a.scratch.now in
    λ b x e B X. any_up (same_atom x) b no_atom 0 c.any.result
    (cases_from_any _ _ c.any.result (Tested (same_atom x) b no_atom 0 true) (Tested (same_atom x) b no_atom 0 false) c.any.ensures.ran (YieldsList-from_range 0 a.nb (length b) refl (omega (arith, e)))
    (λ k q t l h. let z : k - 0 ≡ k = omega arith in rw z (sym (record_same w a.i (hand_at + k) x (get_or b k no_atom) true (search (rules, tests)) X (flat_nth w hand_at b k B (omega (arith, h))))))
    (λ k q t. (search (rules, tests), λ l h. let z : k - 0 ≡ k = omega arith in rw z (sym (record_same w a.i (hand_at + k) x (get_or b k no_atom) false (search (rules, tests)) X (flat_nth w hand_at b k B (omega (arith, h))))))))
