-- A line of an axiom kind, with the right number of fields, is its axiom's line. Assumes nothing.
use mathlib.Core.Path.{◌≡◌, refl}
use mathlib.Core.Bool.{true}
use mathlib.Core.List.{List, [], ◌∷◌, map}
use Prim.Native.Nat.{ℕ}
use native.Mathlib.Omega.{arith}
use borrow.Author.Tests.{eqb-true, leb-true}
use lib.Dec.{eqb, leb}
use lib.ListN.{length, get_or, drop}
use Rattle.ir.specs.Roles.{role_of, role_code, code_role}
use Rattle.rules.specs.Deck.{section_of, axiom_of, fields_ok}
use Rattle.deck.proofs.KindLaws.{axiom_kinds}
use Rattle.normalforms.specs.Forms.{axiom_line_of}

-- ---- rows of two or three numbers, and of one or two and more
two : (r : List ℕ) → eqb (length r) 2 ≡ true → get_or r 0 0 ∷ get_or r 1 0 ∷ [] ≡ r
two [] h = absurd (omega (arith, eqb-true 0 2 h))
two (a ∷ []) h = absurd (omega (arith, eqb-true 1 2 h))
two (a ∷ b ∷ []) h = refl
two (a ∷ b ∷ c ∷ r) h = absurd (omega (arith, eqb-true (length (a ∷ b ∷ c ∷ r)) 2 h))

three : (r : List ℕ) → eqb (length r) 3 ≡ true → get_or r 0 0 ∷ get_or r 1 0 ∷ get_or r 2 0 ∷ [] ≡ r
three [] h = absurd (omega (arith, eqb-true 0 3 h))
three (a ∷ []) h = absurd (omega (arith, eqb-true 1 3 h))
three (a ∷ b ∷ []) h = absurd (omega (arith, eqb-true 2 3 h))
three (a ∷ b ∷ c ∷ []) h = refl
three (a ∷ b ∷ c ∷ d ∷ r) h = absurd (omega (arith, eqb-true (length (a ∷ b ∷ c ∷ d ∷ r)) 3 h))

one_more_lem : (r : List ℕ) → leb 1 (length r) ≡ true → get_or r 0 0 ∷ drop 1 r ≡ r
one_more_lem [] h = absurd (omega (arith, leb-true 1 0 h))
one_more_lem (a ∷ r) h = refl

two_more : (r : List ℕ) → leb 2 (length r) ≡ true → get_or r 0 0 ∷ get_or r 1 0 ∷ drop 2 r ≡ r
two_more [] h = absurd (omega (arith, leb-true 2 0 h))
two_more (a ∷ []) h = absurd (omega (arith, leb-true 2 1 h))
two_more (a ∷ b ∷ r) h = refl

codes : (l : List ℕ) → map role_code (map role_of l) ≡ l
codes [] = refl
codes (c ∷ l) = rw (code_role c, codes l) refl

pub axiom_line_lem : (r : List ℕ) (k : ℕ) → section_of k ≡ 4 → k ≡ get_or r 0 0 → fields_ok k (length r) ≡ true → axiom_line_of (axiom_of k r) ≡ r
unfolding axiom_of
axiom_line_lem r =
    axiom_kinds (λ k. k ≡ get_or r 0 0 → fields_ok k (length r) ≡ true → axiom_line_of (axiom_of k r) ≡ r)
    (λ e h. rw e (three r h))
    (λ e h. rw e (one_more_lem r h))
    (λ e h. rw e (one_more_lem r h))
    (λ e h. rw e (two_more r h))
    (λ e h. rw (code_role (get_or r 1 0), e) (three r h))
    (λ e h. rw (code_role (get_or r 1 0), e) (three r h))
    (λ e h. rw (code_role (get_or r 1 0), codes (drop 2 r), e) (two_more r h))
    (λ e h. rw (code_role (get_or r 1 0), e) (two r h))
    (λ e h. rw (code_role (get_or r 1 0), e) (two r h))
    (λ e h. rw (code_role (get_or r 1 0), e) (two r h))
    (λ e h. rw (codes (drop 1 r), e) (one_more_lem r h))
    (λ e h. rw (code_role (get_or r 1 0), code_role (get_or r 2 0), e) (three r h))
    (λ e h. rw (code_role (get_or r 1 0), code_role (get_or r 2 0), e) (three r h))
    (λ e h. rw (codes (drop 1 r), e) (one_more_lem r h))
    (λ e h. rw (code_role (get_or r 1 0), e) (two r h))
    (λ e h. rw e (three r h))
