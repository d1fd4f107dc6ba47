-- What is written into scratch, and what stays. Assumes nothing.
use mathlib.Core.Path.{◌≡◌, refl, sym, ap, ◌∙◌}
use mathlib.Core.Bool.{Bool, not}
use mathlib.Core.List.{List, [], ◌∷◌, ◌++◌}
use mathlib.Core.Option.{Option, none, some}
use Prim.Native.Nat.{ℕ, suc, ◌+◌, ◌*◌, ◌/◌, ◌%◌, ◌<◌}
use native.Mathlib.Omega.{arith}
use lib.ListN.{length, set, take, drop, length-set, length-drop}
use lib.Seq.{length-sets, get_or-set_other, drop-set-add, take-suc-set}
use lib.Dec.{eqb}
use borrow.Author.Tests.{eq-eqb, ne_eqb}
use Rattle.ir.specs.Pick.{pick}
use Rattle.states.specs.Conditions.{rises, behind, least_of}
use Rattle.states.specs.Masks.{mask_of}
use Rattle.states.specs.MaskLaws.{least_one}
use Rattle.states.specs.ChainLaws.{first_where}
use Rattle.sets.specs.Kept.{set_put}
use Rattle.sets.specs.KeptLaws.{word_before, word_behind}
use Rattle.sets.specs.Places.{shown_at, left_at}
use Rattle.sets.specs.Verdicts.{shown}
use Rattle.axiomtests.specs.Breaking.{Aside}

pub aside_refl : (v : List ℕ) → Aside v v
aside_refl v = record { long = refl; before = λ i _. refl; behind = λ i _. refl }

pub aside_trans : (u v w : List ℕ) → Aside u v → Aside v w → Aside u w
aside_trans u v w A B = record { long = B.long ∙ A.long; before = λ i h. B.before i h ∙ A.before i h; behind = λ i h. B.behind i h ∙ A.behind i h }

-- an element that is shown, and a set of a chain
pub aside_shown : (v v' : List ℕ) (k y : ℕ) → k < 1024 → v' ≡ set v (shown_at + k) y → Aside v v'
aside_shown v v' k y h e = rw e (record {
  long = length-set v (shown_at + k) y;
  before = λ i l. get_or-set_other v (shown_at + k) i y 0 (λ q. absurd (omega arith));
  behind = λ i l. get_or-set_other v (shown_at + k) i y 0 (λ q. absurd (omega arith));
})

pub aside_left : (v v' : List ℕ) (k m : ℕ) → k < 512 → v' ≡ set_put v (left_at + k) m → Aside v v'
aside_left v v' k m h e = rw e (record {
  long = length-sets v (2 * (left_at + k)) ((m % 4294967296) ∷ (m / 4294967296) ∷ []);
  before = λ i l. word_before v (left_at + k) m i (omega arith);
  behind = λ i l. word_behind v (left_at + k) m i (omega arith);
})

-- ---- the elements that are shown
pub shown_more : (v v' : List ℕ) (k y : ℕ) → shown_at + k < length v → v' ≡ set v (shown_at + k) y → shown v' (suc k) ≡ shown v k ++ (y ∷ [])
shown_more v v' k y h e =
    let q = length-drop shown_at v in
    ap (λ (w : List ℕ). shown w (suc k)) e ∙ ap (take (suc k)) (drop-set-add shown_at v k y) ∙ take-suc-set (drop shown_at v) k y (omega arith)

pub shown_first : (v v' : List ℕ) (y : ℕ) → shown_at < length v → v' ≡ set v shown_at y → shown v' 1 ≡ y ∷ []
shown_first v v' y h e = shown_more v v' 0 y (omega arith) e

pub shown_second : (v v' v'' : List ℕ) (x y : ℕ) → shown_at + 1 < length v → v' ≡ set v shown_at x → v'' ≡ set v' (shown_at + 1) y → shown v'' 2 ≡ x ∷ y ∷ []
shown_second v v' v'' x y h e f =
    let l : length v' ≡ length v = ap length e ∙ length-set v shown_at x in
    shown_more v' v'' 1 y (omega arith) f ∙ ap (λ (k : List ℕ). k ++ (y ∷ [])) (shown_first v v' x (omega arith) e)

-- ---- the least element
module _ (n m : ℕ) (t : List ℕ → Bool) (e : m ≡ mask_of n (λ x. not (t (x ∷ [])))) where
  abbrev found : ℕ
  found = first_where (λ x. not (t (x ∷ []))) (rises 0 n)

  by_mask : (b : Bool) → eqb m 0 ≡ b → least_of (rises 0 n) 1 t ≡ pick b none (some (found ∷ []))
  by_mask b q = least_one n t (λ x. not (t (x ∷ []))) (λ _ _. refl) ∙ ap (λ c. pick {A = Option (List ℕ)} c none (some (found ∷ []))) (ap (λ (k : ℕ). eqb k 0) (sym e) ∙ q)

  pub least_empty : m ≡ 0 → none ≡ least_of (rises 0 n) 1 t
  least_empty z = sym (by_mask _ (eq-eqb m 0 z))

  pub least_shown : (r : ℕ) (l : List ℕ) → (m ≡ 0 → ⊥) → r ≡ found → l ≡ r ∷ [] → some l ≡ least_of (rises 0 n) 1 t
  least_shown r l d q h = ap some (h ∙ ap (λ (k : ℕ). k ∷ []) q) ∙ sym (by_mask _ (ne_eqb m 0 d))

  pub least_behind : (x r : ℕ) (l : List ℕ) → (m ≡ 0 → ⊥) → r ≡ found → l ≡ x ∷ r ∷ [] → some l ≡ behind x (least_of (rises 0 n) 1 t)
  least_behind x r l d q h = ap some h ∙ ap (behind x) (least_shown r (r ∷ []) d q refl)
