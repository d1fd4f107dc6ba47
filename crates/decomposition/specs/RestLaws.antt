-- The rule, clause by clause: it always answers, and what is named is never taken back. Assumes nothing.
use Rattle.std.specs.Prelude.{Bool, true, false, ◌≡◌, refl, List, [], ◌∷◌, ℕ, suc, ◌≤◌, length}
use Rattle.std.proofs.Common.{ap, ◌∙◌, arith}
use Rattle.std.proofs.Math.Option.{Option}
use Rattle.ir.specs.declared.atom.Atom.{Atom}
use Rattle.rules.specs.Base.{Res, ok, then}
use Rattle.rules.specs.State.{Clause}
use Rattle.rules.specs.Branches.{Rewritten, rewrite, stays_whole, name_branches, head_vars, decompose_one, decompose_from}
use Rattle.rules.specs.Branches as Rules
use Rattle.naming.specs.GoesLaws.{wide, Goes, goes_then, by_goes}
use Rattle.decomposition.specs.Bodies.{reduction, reduced}

one_is : (r : Rewritten) (x : Clause) (b : Bool) (z : Rules.Naming) → decompose_one r x b z ≡ then (reduction x b z) (λ o y. ok (rewrite r x o) y)
one_is r x true z = refl
one_is r x false z = refl

-- one clause of the list
pub from_next : (r : Rewritten) (x : Clause) (m : List Clause) (z : Rules.Naming) (o : Option (List Atom)) (y : Rules.Naming) → reduced x z ≡ ok o y → decompose_from r (x ∷ m) z ≡ decompose_from (rewrite r x o) m y
unfolding decompose_from
from_next r x m z o y e =
    ap (λ (t : Res Rules.Naming Rewritten). then t (λ k. decompose_from k m)) (one_is r x (stays_whole x.body) z ∙ ap (λ (t : Res Rules.Naming (Option (List Atom))). then t (λ o y. ok (rewrite r x o) y)) e)

one_goes : (r : Rewritten) (x : Clause) (b : Bool) (z : Rules.Naming) (n : ℕ) → n ≤ wide z → Goes n (decompose_one r x b z)
one_goes r x true z n h = h
one_goes r x false z n h =
    goes_then n (name_branches x.body 0 (head_vars x.head) z) (λ o y. ok (rewrite r x o) y) (by_goes (suc (length x.body)) x.body 0 (head_vars x.head) z n (omega arith) h) (λ o y k. k)

pub from_goes : (r : Rewritten) (m : List Clause) (z : Rules.Naming) (n : ℕ) → n ≤ wide z → Goes n (decompose_from r m z)
unfolding decompose_from
from_goes r [] z n h = h
from_goes r (x ∷ m) z n h =
    goes_then n (decompose_one r x (stays_whole x.body) z) (λ k. decompose_from k m) (one_goes r x (stays_whole x.body) z n h) (λ k y j. from_goes k m y n j)
