-- The longest text. Assumes nothing.
use mathlib.Core.Path.{◌≡◌, refl, ap, subst, ◌∙◌}
use mathlib.Core.List.{List, [], ◌∷◌, ◌++◌}
use Prim.Native.Nat.{ℕ, zero, suc, ◌+◌, ◌*◌, ◌-◌, ◌<◌, ◌≤◌}
use native.Mathlib.Omega.{arith}
use lib.Dec.{ltb}
use lib.ListN.{length, length-append}
use borrow.Author.Tests.{ltb-true, ltb-false}
use Rattle.rules.specs.Concept.{Concept}
use Rattle.rules.specs.Concept.{Top, Bot, Atomic, Nominal, SelfRestriction, Not, And, Or, Some, All, Min, Max}
use Rattle.rules.specs.Pool.{Pool, width, members}
use Rattle.rules.specs.Lister.{fields_text}
use Rattle.rules.specs.TextLaws.{by_test}
use Rattle.pool.specs.Layout.{pool_of}
use Rattle.pool.specs.Held.{Held}
use Rattle.pool.specs.HeldLaws.{pool_length}
use Rattle.ontology.specs.Layout.{axiom_start, axiom_row, axioms_of, AxiomsHeld}
use Rattle.rows.specs.Rows.{Put}
use Rattle.rows.specs.RowLaws.{length_line, put_then}
use Rattle.normalforms.specs.Forms.{concept_line, concepts_text, axioms_text, sums_line, normal_text, most_text}
use Rattle.normalforms.proofs.LineLaws.{axioms_left, axiom_long, axioms_next, axioms_none, axioms_from}

concept_short : (e : Concept) → length (concept_line e) ≤ 4 + width e
concept_short Top = omega arith
concept_short Bot = omega arith
concept_short (Atomic _) = omega arith
concept_short (Nominal _) = omega arith
concept_short (SelfRestriction _) = omega arith
concept_short (Not _) = omega arith
concept_short (And l) = omega arith
concept_short (Or l) = omega arith
concept_short (Some _ _) = omega arith
concept_short (All _ _) = omega arith
concept_short (Min _ _ _) = omega arith
concept_short (Max _ _ _) = omega arith

concepts_short : (p : Pool) → length (concepts_text p) ≤ 45 * length p + 11 * members p
unfolding concepts_text members
concepts_short [] = omega arith
concepts_short (e ∷ p) =
    omega (arith, concept_short e, length_line (concept_line e), concepts_short p, length-append (fields_text (concept_line e)) (concepts_text p))

module _ (w : List ℕ) (n : ℕ) (A : AxiomsHeld w n) where
  -- d axioms are left
  left_short : (d i : ℕ) → i + d ≡ n → i < n → length (axioms_left w i n) ≤ 11 * (6144 - axiom_start w i) + d
  left_short zero i e h = absurd (omega arith)
  left_short (suc d) i e h =
      let s = axioms_next w i n A h in
      let l : length (axioms_left w i n) ≡ length (fields_text (axiom_row w i)) + length (axioms_left w (i + 1) n) = ap length s ∙ length-append (fields_text (axiom_row w i)) (axioms_left w (i + 1) n) in
      let a = axiom_long w n A i h in
      by_test (ltb (i + 1) n)
      (λ t.
      let g : i + 1 < n = ltb-true (i + 1) n t in
      omega (arith, l, a, left_short d (i + 1) (omega arith) g, A.apart i (i + 1) (omega arith) g, A.within (i + 1) g))
      (λ t.
      let z : length (axioms_left w (i + 1) n) ≡ 0 = ap length (axioms_none w (i + 1) n (ltb-false (i + 1) n t)) in
      omega (arith, l, a, z, A.within i h))

  axioms_short : length (axioms_text (axioms_of w n)) ≤ 11 * 6144 + n
  axioms_short =
      by_test (ltb 0 n)
      (λ t. omega (arith, left_short n 0 (omega arith) (ltb-true 0 n t), ap length (axioms_from w n)))
      (λ t. omega (arith, ap length (axioms_none w 0 n (ltb-false 0 n t)), ap length (axioms_from w n)))

module _ (w : List ℕ) (m : ℕ) (c : ℕ) (H : Held w c m) (n : ℕ) (A : AxiomsHeld w n) where
  pub concepts_room : length (concepts_text (pool_of w c)) ≤ 272384
  concepts_room = omega (arith, concepts_short (pool_of w c), pool_length w c, H.count, H.few, H.space)

  pub axioms_room : length (axioms_text (axioms_of w n)) ≤ 68608
  axioms_room = omega (arith, axioms_short w n A, A.few)

  pub normal_room : (visits : ℕ) → length (normal_text (axioms_of w n) (pool_of w c) visits) ≤ most_text
  normal_room visits =
      let p = concepts_text (pool_of w c) in
      let a = axioms_text (axioms_of w n) in
      let s = fields_text (sums_line (pool_of w c) visits) in
      omega (arith, concepts_room, axioms_room, length-append p (a ++ s), length-append a s, length_line (sums_line (pool_of w c) visits))

-- the three pieces of the text
pub normal_put : (w : List ℕ) (m c : ℕ) → Held w c m → (n visits : ℕ) {s s' s'' s''' : List ℕ} {at p q r : ℕ}
    → Put s at (concepts_text (pool_of w c)) s' p → Put s' p (axioms_text (axioms_of w n)) s'' q → Put s'' q (fields_text (44 ∷ visits ∷ c ∷ m ∷ [])) s''' r
    → Put s at (normal_text (axioms_of w n) (pool_of w c) visits) s''' r
normal_put w m c H n visits {s} {s'} {s''} {s'''} {at} {p} {q} {r} x y z =
    let e : 44 ∷ visits ∷ c ∷ m ∷ [] ≡ sums_line (pool_of w c) visits = rw (pool_length w c, ← H.count) refl in
    put_then x (put_then y (subst (λ (l : List ℕ). Put s'' q (fields_text l) s''' r) e z))
