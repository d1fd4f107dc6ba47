-- Key marks one by one. Assumes nothing.
use Rattle.std.proofs.Math.Bool.{or-true, or-false}
use mathlib.Core.Path.{◌≡◌, sym, ap, ◌∙◌}
use mathlib.Core.Bool.{Bool, true, false, not, ◌||◌}
use mathlib.Core.List.{List}
use Prim.Native.Nat.{ℕ, ◌+◌, ◌<◌, ◌≤◌}
use native.Mathlib.Numerals.{add-one}
use native.Mathlib.Omega.{arith}
use borrow.Author.Tests.{eqb-true, eqb-false}
use lib.Dec.{eqb}
use lib.ListN.{length, get_or, set, replicate, length-set, length-replicate, get_or-replicate}
use lib.Seq.{sets, length-sets, get_or-set_same, get_or-set_other}
use Rattle.words.specs.Runs.{get_d_sets_before, get_d_sets_after, get_d_sets_in}
use Rattle.ir.specs.Scratch.{keys_at, roles_at, stack_at}
use Rattle.rules.specs.Base.{contains}
use Rattle.rules.specs.Deck.{most_classes}
use Rattle.rules.specs.Invariants.{Each}
use Rattle.rules.specs.TextLaws.{by_test, each_get_d}
use Rattle.deck.specs.Records.{tab}
use Rattle.deck.specs.TabLaws.{get_d_tab, any_more}
use Rattle.ontology.specs.Layout.{is_key}
use Rattle.ontology.specs.Lines.{Kept}

-- the classes of f, the first i of them marked, and nothing else written
pub record Marking (f : ℕ → ℕ) (w₀ : List ℕ) (i : ℕ) (w : List ℕ) : Type 0 where
  pub size : length w ≡ length w₀
  pub before : Kept 0 keys_at w₀ w
  pub behind : Kept roles_at stack_at w₀ w
  pub marked : (a : ℕ) → a < most_classes → is_key w a ≡ contains (tab f i) a

-- the loop, from the words w₁ on in which nothing is marked
abbrev pub Marks : (ℕ → ℕ) → ℕ → List ℕ → List ℕ → Type 0
Marks f i w₁ w = (w₀ : List ℕ) → roles_at ≤ length w₀ → Marking f w₀ 0 w₁ → Marking f w₀ i w

module _ (f : ℕ → ℕ) (w₀ : List ℕ) (long : roles_at ≤ length w₀) where
  pub marking_first : (w : List ℕ) → w ≡ sets w₀ keys_at (replicate most_classes 0) → Marking f w₀ 0 w
  unfolding tab
  marking_first w e =
      let z : List ℕ = replicate most_classes 0 in
      let m : length z ≡ most_classes = length-replicate {0} {A = ℕ} most_classes 0 in
      rw e record {
        size = length-sets w₀ keys_at z;
        before = λ j a b. get_d_sets_before z w₀ keys_at j 0 b;
        behind = λ j l h. get_d_sets_after z w₀ keys_at j 0 (omega arith);
        marked = λ a l. ap (λ (x : ℕ). not (eqb x 0)) (get_d_sets_in z w₀ keys_at a 0 (omega arith) (omega arith) ∙ get_or-replicate {0} {A = ℕ} most_classes a 0 0 l);
      }

  module _ (i : ℕ) (w : List ℕ) (M : Marking f w₀ i w) (x : ℕ) (is : x ≡ f i) (few : x < most_classes) where
    more : (a : ℕ) (t : Bool) → eqb a x ≡ t → contains (tab f (i + 1)) a ≡ (contains (tab f i) a || t)
    more a t e = rw (add-one i) (any_more f (eqb a) i ∙ ap (λ (b : Bool). contains (tab f i) a || b) (ap (eqb a) (sym is) ∙ e))

    pub marking_next : (w' : List ℕ) → w' ≡ set w (keys_at + x) 1 → Marking f w₀ (i + 1) w'
    marking_next w' e = rw e record {
      size = length-set w (keys_at + x) 1 ∙ M.size;
      before = λ j a b. get_or-set_other w (keys_at + x) j 1 0 (λ q. absurd (omega arith)) ∙ M.before j a b;
      behind = λ j l h. get_or-set_other w (keys_at + x) j 1 0 (λ q. absurd (omega arith)) ∙ M.behind j l h;
      marked = λ a l. by_test (eqb a x)
          (λ t. let q : a ≡ x = eqb-true a x t in
          ap (λ (y : ℕ). not (eqb y 0)) (ap (λ (j : ℕ). get_or (set w (keys_at + x) 1) (keys_at + j) 0) q ∙ get_or-set_same w (keys_at + x) 1 0 (omega (arith, M.size)))
          ∙ sym (more a true t ∙ or-true (contains (tab f i) a)))
          (λ t. ap (λ (y : ℕ). not (eqb y 0)) (get_or-set_other w (keys_at + x) (keys_at + a) 1 0 (λ q. eqb-false a x t (omega arith)))
          ∙ M.marked a l ∙ sym (more a false t ∙ or-false (contains (tab f i) a)));
    }

-- the class of mark i
pub key_is : (f : ℕ → ℕ) (n i x : ℕ) → i < n → x ≡ get_or (tab f n) i 0 → x ≡ f i
key_is f n i x l e = e ∙ get_d_tab f 0 n i l

pub key_few : (f : ℕ → ℕ) (n i x : ℕ) → Each (λ a. a < most_classes) (tab f n) → x ≡ get_or (tab f n) i 0 → x < most_classes
key_few f n i x h e = rw e (each_get_d (λ (a : ℕ). a < most_classes) (tab f n) i 0 h (omega arith))
