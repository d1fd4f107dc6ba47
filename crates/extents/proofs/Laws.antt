-- Sets against tests over the elements: one of them, all of them, how many. Assumes nothing.
use Rattle.std.proofs.Math.Bool.{not-not}
use mathlib.Core.Path.{◌≡◌, sym, ap, ◌∙◌, subst}
use mathlib.Core.Bool.{Bool, not, ◌&&◌}
use mathlib.Core.List.{List, [], ◌∷◌, ◌++◌}
use Prim.Native.Nat.{ℕ, ◌+◌, ◌<◌}
use native.Mathlib.Omega.{arith}
use native.Mathlib.Numerals.{add-one}
use lib.Dec.{eqb}
use lib.ListN.{get_or}
use Rattle.rules.specs.Base.{all, any}
use Rattle.rules.specs.Invariants.{Each}
use Rattle.rules.specs.JointLaws.{Joint}
use Rattle.rules.specs.Semantics.{elements_below, implies, count}
use Rattle.meaning.specs.Truth.{all_same, not_and_not}
use Rattle.meaning.specs.Joints.{joins, over, joins_unit, over_append, not_any}
use Rattle.states.specs.LeastLaws.{all_rising}
use Rattle.states.specs.Masks.{mask_of, mask_none}
use Rattle.states.specs.MaskLaws.{mask_same}
use Rattle.pool.specs.Layout.{members_at, run}
use Rattle.pool.specs.Tabs.{tab_snoc, tab_each}

-- no element
none_is : (n : ℕ) (f : ℕ → Bool) → eqb (mask_of n f) 0 ≡ not (any f (elements_below n))
none_is n f = mask_none n f ∙ sym (all_rising n (λ x. not (f x))) ∙ sym (not_any f (elements_below n))

pub some_is : (n : ℕ) (f : ℕ → Bool) → not (eqb (mask_of n f) 0) ≡ any f (elements_below n)
some_is n f = ap not (none_is n f) ∙ not-not (any f (elements_below n))

pub all_is : (n : ℕ) (f g : ℕ → Bool) → eqb (mask_of n (λ y. f y && not (g y))) 0 ≡ all (λ y. implies (f y) (g y)) (elements_below n)
all_is n f g =
    mask_none n (λ y. f y && not (g y)) ∙ sym (all_rising n (λ y. not (f y && not (g y))))
    ∙ all_same n (λ y. not (f y && not (g y))) (λ y. implies (f y) (g y)) (λ y _. not_and_not (f y) (g y))

-- ---- one list member more
pub joint_more : (v : List ℕ) (s i n : ℕ) (j : Joint) (m : ℕ → ℕ → Bool)
    → mask_of n (λ x. joins j (over j (λ c. m c x) (run v s i)) (m (get_or v (s + i) 0) x)) ≡ mask_of n (λ x. over j (λ c. m c x) (run v s (i + 1)))
joint_more v s i n j m = mask_same n (λ x. joins j (over j (λ c. m c x) (run v s i)) (m (get_or v (s + i) 0) x)) (λ x. over j (λ c. m c x) (run v s (i + 1))) (λ x _.
    let f : ℕ → Bool = λ c. m c x in
    let e : run v s (i + 1) ≡ run v s i ++ (get_or v (s + i) 0 ∷ []) = ap (run v s) (add-one i) ∙ tab_snoc (λ k. get_or v k 0) s i in
    ap (joins j (over j f (run v s i))) (sym (joins_unit j (f (get_or v (s + i) 0)))) ∙ sym (over_append j f (run v s i) (get_or v (s + i) 0 ∷ [])) ∙ ap (over j f) (sym e))

-- what holds of a list's members holds of member i
pub member_at_lem : (P : ℕ → Type 0) (v : List ℕ) (start count i : ℕ) → Each P (run v (members_at + start) count) → i < count → P (get_or v (members_at + (start + i)) 0)
member_at_lem P v start count i E h =
    let e : members_at + start + i ≡ members_at + (start + i) = omega arith in
    subst (λ (k : ℕ). P (get_or v k 0)) e (tab_each (λ k. get_or v k 0) P (members_at + start) count E i h)
