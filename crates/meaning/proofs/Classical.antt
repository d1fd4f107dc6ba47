-- What the law of a world asks for: with excluded middle every interpretation of OWL 2 Direct Semantics, finite or infinite, is a
-- world, and no choice is needed. Excluded middle is an argument here and is used nowhere else. Assumes nothing.
use Rattle.std.specs.Prelude.{◌≡◌, refl, Bool, true, false, not, List, [], ◌∷◌, ℕ, zero, suc, ◌≤◌, ltb}
use Rattle.std.proofs.Math.Path.{fun_ext}
use Rattle.std.proofs.lemmas.Bool.{false≢true}
use Rattle.std.proofs.Common.{le_refl, arith}
use Rattle.std.proofs.Math.Nat.{ℕ_set}
use Rattle.rules.specs.Invariants.{Each}
use Rattle.rules.specs.Semantics.{elements_below, count}
use Rattle.rules.specs.Worlds.{Many, World, Same}
use Rattle.meaning.proofs.Finite.{listed}

abbrev pub ExcludedMiddle : Type 1
ExcludedMiddle = (P : Type 0) → IsProp P → Dec P

-- a set of elements, a subset of it for each class, a set of pairs for each role, an element for each individual
pub record Structure (D : Type 0) : Type 1 where
  pub is_set : IsSet D
  pub class : ℕ → D → Type 0
  pub class_prop : (a : ℕ) (x : D) → IsProp (class a x)
  pub role : ℕ → D → D → Type 0
  pub role_prop : (r : ℕ) (x y : D) → IsProp (role r x y)
  pub individual : ℕ → D

abbrev pub says : {P : Type 0} → Dec P → Bool
says (yes _) = true
says (no _) = false

pub says_true : {P : Type 0} (d : Dec P) → Same (says d ≡ true) P
says_true (yes p) = record { there = λ _. p; back = λ _. refl }
says_true (no n) = record { there = λ e. absurd (false≢true e); back = λ p. absurd (n p) }

pub none_prop : (P : Type 0) → IsProp (P → ⊥)
none_prop P f g = fun_ext (λ x. absurd (f x))

pub there_are : {P : Type 0} (d : Dec (P → ⊥)) → P → not (says d) ≡ true
there_are (yes n) p = absurd (n p)
there_are (no _) p = refl

pub not_none : {P : Type 0} (d : Dec (P → ⊥)) → not (says d) ≡ true → (P → ⊥) → ⊥
not_none (yes n) e k = false≢true e
not_none (no n) e k = n k

module _ (em : ExcludedMiddle) {D : Type 0} (S : Structure D) where
  abbrev pub none? : (n : ℕ) (p : D → Bool) → Dec (Many (λ (x : D). true) n p → ⊥)
  none? n p = em (Many (λ (x : D). true) n p → ⊥) (none_prop (Many (λ (x : D). true) n p))

  abbrev pub world_by : World D
  world_by = record {
    element = λ x. true;
    class = λ a x. says (em (S.class a x) (S.class_prop a x));
    role = λ r x y. says (em (S.role r x y) (S.role_prop r x y));
    individual = S.individual;
    same = λ x y. says (em (x ≡ y) (S.is_set x y));
    same_equal = λ x y. (says_true (em (x ≡ y) (S.is_set x y))).there;
    equal_same = λ x. (says_true (em (x ≡ x) (S.is_set x x))).back refl;
    at_least = λ n p. not (says (none? n p));
    many_least = λ n p. there_are (none? n p);
    least_many = λ n p. not_none (none? n p);
  }

  -- its sets and pairs are the interpretation's
  pub class_says : (a : ℕ) (x : D) → Same (world_by.class a x ≡ true) (S.class a x)
  class_says a x = says_true (em (S.class a x) (S.class_prop a x))

  pub role_says : (r : ℕ) (x y : D) → Same (world_by.role r x y ≡ true) (S.role r x y)
  role_says r x y = says_true (em (S.role r x y) (S.role_prop r x y))

-- an infinite one: all numbers, one the role successor of the one before it
abbrev pub numbers : Structure ℕ
numbers = record {
  is_set = ℕ_set;
  class = λ a x. x ≡ a;
  class_prop = λ a x. ℕ_set x a;
  role = λ r x y. y ≡ suc x;
  role_prop = λ r x y. ℕ_set y (suc x);
  individual = λ i. i;
}

every : (n : ℕ) (l : List ℕ) → Each (λ x. ltb x n ≡ true) l → Each (λ (x : ℕ). true ≡ true) l
every n [] h = tt
every n (x ∷ l) h = (refl, every n l h.1)

all_count : (n : ℕ) → n ≤ count (λ x. true) (elements_below n)
unfolding elements_below
all_count zero = le_refl zero
all_count (suc n) = omega (arith, all_count n)

-- however large n, it has n different elements
pub endless : (em : ExcludedMiddle) (n : ℕ) → (world_by em numbers).at_least n (λ x. true) ≡ true
endless em n = (world_by em numbers).many_least n (λ x. true) (below (listed (λ x. true) n n (all_count n)))
  where
    below : Many (λ x. ltb x n) n (λ x. true) → Many (λ (x : ℕ). true) n (λ x. true)
    below t = record { those = t.those; number = t.number; different = t.different; elements = every n t.those t.elements; satisfy = t.satisfy }
