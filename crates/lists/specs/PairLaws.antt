-- The pairs of a list's elements, one element further. Assumes nothing.
use Rattle.std.specs.Prelude.{◌≡◌, Bool, eqb}
use Rattle.std.proofs.Math.Path.{refl, ap}
use Rattle.std.proofs.Math.Bool.{true, false}
use mathlib.Core.List.{List, [], ◌∷◌, ◌++◌}
use Prim.Native.Nat.{ℕ, suc, ◌+◌}
use native.Mathlib.Omega.{arith}
use borrow.Author.Tests.{eq-eqb, ne_eqb}
use Rattle.ir.specs.Pick.{pick}
use Rattle.rules.specs.Axioms.{paired, later_pairs, numbered, with_others, ordered_from}

-- ---- pairs with a rest, and without
module _ {A : Type 0} where
  paired_rest : (a : A) (l : List A) (r : List (A × A)) → paired a l r ≡ paired a l [] ++ r
  unfolding paired
  paired_rest a [] r = refl
  paired_rest a (b ∷ l) r = ap (λ (t : List (A × A)). (a, b) ∷ t) (paired_rest a l r)

  others_rest : (x : ℕ × A) (l : List (ℕ × A)) (r : List (A × A)) → with_others x l r ≡ with_others x l [] ++ r
  unfolding with_others
  others_rest x [] r = refl
  others_rest x (y ∷ l) r = go (others_rest x l r) (eqb x.0 y.0)
    where
      go : with_others x l r ≡ with_others x l [] ++ r → (b : Bool) → pick b (with_others x l r) ((x.1, y.1) ∷ with_others x l r) ≡ pick b (with_others x l []) ((x.1, y.1) ∷ with_others x l []) ++ r
      go q true = q
      go q false = ap (λ (t : List (A × A)). (x.1, y.1) ∷ t) q

  -- ---- one element further
  pub paired_next : (a b : A) (l r : List A) → l ≡ b ∷ r → paired a l [] ≡ (a, b) ∷ paired a r []
  unfolding paired
  paired_next a b l r q = rw q refl

  pub paired_end : (a : A) (l : List A) → l ≡ [] → paired a l [] ≡ []
  unfolding paired
  paired_end a l q = rw q refl

  pub later_next : (a : A) (l r : List A) → l ≡ a ∷ r → later_pairs l ≡ paired a r [] ++ later_pairs r
  unfolding later_pairs
  later_next a l r q = rw q (paired_rest a r (later_pairs r))

  pub later_end : (l : List A) → l ≡ [] → later_pairs l ≡ []
  unfolding later_pairs
  later_end l q = rw q refl

  -- element j of those that are numbered
  module _ (i j : ℕ) (a b : A) (l r : List A) (q : l ≡ b ∷ r) where
    pub others_next : (i ≡ j → ⊥) → with_others (i, a) (numbered j l) [] ≡ (a, b) ∷ with_others (i, a) (numbered (j + 1) r) []
    unfolding with_others numbered
    others_next h = let e : j + 1 ≡ suc j = omega arith in rw (q, e, ne_eqb i j h) refl

    pub others_skip : i ≡ j → with_others (i, a) (numbered j l) [] ≡ with_others (i, a) (numbered (j + 1) r) []
    unfolding with_others numbered
    others_skip h = let e : j + 1 ≡ suc j = omega arith in rw (q, e, eq-eqb i j h) refl

  pub others_end : (x : ℕ × A) (j : ℕ) (l : List A) → l ≡ [] → with_others x (numbered j l) [] ≡ []
  unfolding with_others numbered
  others_end x j l q = rw q refl

  pub ordered_next : (i : ℕ) (a : A) (l r : List A) (all : List (ℕ × A)) → l ≡ a ∷ r → ordered_from (numbered i l) all ≡ with_others (i, a) all [] ++ ordered_from (numbered (i + 1) r) all
  unfolding ordered_from numbered
  ordered_next i a l r all q = let e : i + 1 ≡ suc i = omega arith in rw (q, e) (others_rest (i, a) all (ordered_from (numbered (suc i) r) all))

  pub ordered_end : (i : ℕ) (l : List A) (all : List (ℕ × A)) → l ≡ [] → ordered_from (numbered i l) all ≡ []
  unfolding ordered_from numbered
  ordered_end i l all q = rw q refl
