-- Kinds of axioms, one after the other. Assumes nothing.
use mathlib.Core.Path.{◌≡◌, refl}
use mathlib.Core.Bool.{true, false≢true}
use mathlib.Core.List.{List}
use Prim.Native.Nat.{ℕ, ◌≤◌}
use native.Mathlib.Omega.{arith}
use lib.Dec.{eqb}
use borrow.Author.Tests.{ne_eqb, eqb-true}
use Rattle.rules.specs.Deck.{section_of, axiom_of}
use Rattle.deck.proofs.KindLaws.{axiom_kinds}
use Rattle.states.specs.Conditions.{axiom_vars}
use Rattle.axiomtests.specs.Lines.{of_element, of_pair}

pub last_element : (k : ℕ) → of_element k ≡ true → (k ≡ 21 → ⊥) → (k ≡ 22 → ⊥) → (k ≡ 23 → ⊥) → (k ≡ 24 → ⊥) → (k ≡ 29 → ⊥) → k ≡ 35
last_element k h a b c d e = let q : eqb k 35 ≡ true = rw (ne_eqb k 21 a, ne_eqb k 22 b, ne_eqb k 23 c, ne_eqb k 24 d, ne_eqb k 29 e) at h in eqb-true k 35 q

pub last_pair : (k : ℕ) → of_pair k ≡ true → (k ≡ 25 → ⊥) → (k ≡ 26 → ⊥) → (k ≡ 30 → ⊥) → (k ≡ 31 → ⊥) → (k ≡ 32 → ⊥) → (k ≡ 33 → ⊥) → k ≡ 34
last_pair k h a b c d e f = let q : eqb k 34 ≡ true = rw (ne_eqb k 25 a, ne_eqb k 26 b, ne_eqb k 30 c, ne_eqb k 31 d, ne_eqb k 32 e, ne_eqb k 33 f) at h in eqb-true k 34 q

-- ---- how many elements are shown
abbrev One : List ℕ → ℕ → Type 0
One r k = of_element k ≡ true → 1 ≡ axiom_vars (axiom_of k r)

pub element_vars : (r : List ℕ) (k : ℕ) → section_of k ≡ 4 → One r k
unfolding axiom_of
element_vars r =
    axiom_kinds (One r) (λ _. refl) (λ _. refl) (λ _. refl) (λ _. refl) (λ h. absurd (false≢true h)) (λ h. absurd (false≢true h)) (λ h. absurd (false≢true h)) (λ h. absurd (false≢true h)) (λ _. refl)
    (λ h. absurd (false≢true h)) (λ h. absurd (false≢true h)) (λ h. absurd (false≢true h)) (λ h. absurd (false≢true h)) (λ h. absurd (false≢true h)) (λ _. refl) (λ h. absurd (false≢true h))

abbrev Two : List ℕ → ℕ → Type 0
Two r k = of_pair k ≡ true → 2 ≡ axiom_vars (axiom_of k r)

pub pair_vars : (r : List ℕ) (k : ℕ) → section_of k ≡ 4 → Two r k
unfolding axiom_of
pair_vars r =
    axiom_kinds (Two r) (λ h. absurd (false≢true h)) (λ h. absurd (false≢true h)) (λ h. absurd (false≢true h)) (λ h. absurd (false≢true h)) (λ _. refl) (λ _. refl) (λ h. absurd (false≢true h)) (λ h. absurd (false≢true h)) (λ h. absurd (false≢true h))
    (λ _. refl) (λ _. refl) (λ _. refl) (λ _. refl) (λ _. refl) (λ h. absurd (false≢true h)) (λ h. absurd (false≢true h))

-- ---- the kind that is neither
abbrev Last : ℕ → Type 0
Last k = (21 ≤ k → k ≤ 35 → ⊥) → k ≡ 36

pub last_kind : (k : ℕ) → section_of k ≡ 4 → Last k
last_kind =
    axiom_kinds Last (λ h. absurd (h (omega arith) (omega arith))) (λ h. absurd (h (omega arith) (omega arith))) (λ h. absurd (h (omega arith) (omega arith))) (λ h. absurd (h (omega arith) (omega arith))) (λ h. absurd (h (omega arith) (omega arith)))
    (λ h. absurd (h (omega arith) (omega arith))) (λ h. absurd (h (omega arith) (omega arith))) (λ h. absurd (h (omega arith) (omega arith))) (λ h. absurd (h (omega arith) (omega arith))) (λ h. absurd (h (omega arith) (omega arith)))
    (λ h. absurd (h (omega arith) (omega arith))) (λ h. absurd (h (omega arith) (omega arith))) (λ h. absurd (h (omega arith) (omega arith))) (λ h. absurd (h (omega arith) (omega arith))) (λ h. absurd (h (omega arith) (omega arith))) (λ _. refl)
