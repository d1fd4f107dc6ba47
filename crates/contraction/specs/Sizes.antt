-- Clauses of a table with as many atoms as one in hand; the others are not equal to it. Assumes nothing.
use Rattle.std.specs.Prelude.{Bool, true, false, ◌&&◌, ◌≡◌, refl, List, ℕ, eqb}
use Rattle.std.proofs.Common.{sym, ap, ◌∙◌, eqb-true}
use Rattle.std.proofs.lemmas.Bool.{eqb-false, and_parts}
use Rattle.rules.specs.State.{Clause}
use Rattle.rules.specs.Reflexive.{same_clause}
use Rattle.tables.specs.Tabled.{body_count, head_count, ClauseAt}
use Rattle.contraction.specs.InHands.{ClauseInHand}
use Rattle.contraction.specs.PlacedLaws.{body_apart, head_apart}

-- clause i has nb body atoms and nh head atoms
abbrev pub has_size : List ℕ → ℕ → ℕ → ℕ → Bool
has_size c nb nh i = eqb (body_count c i) nb && eqb (head_count c i) nh

-- the two counts
pub size_both : (c : List ℕ) (nb nh i : ℕ) → has_size c nb nh i ≡ true → (body_count c i ≡ nb) × (head_count c i ≡ nh)
size_both c nb nh i e =
    let h = and_parts (eqb (body_count c i) nb) (eqb (head_count c i) nh) e in
    (eqb-true (body_count c i) nb h.0, eqb-true (head_count c i) nh h.1)

-- a clause of another size is not the one in hand
pub other_size : (c a : List ℕ) (i : ℕ) (y : Clause) → ClauseAt c a i y → (w : List ℕ) (nb nh : ℕ) (x : Clause) → ClauseInHand w nb nh x → has_size c nb nh i ≡ false → same_clause x y ≡ false
other_size c a i y Y w nb nh x X e = by (eqb (body_count c i) nb) refl
  where
    by : (b : Bool) → eqb (body_count c i) nb ≡ b → same_clause x y ≡ false
    by true q = head_apart c a i y Y w nb nh x X (eqb-false (head_count c i) nh (sym (ap (λ (b : Bool). b && eqb (head_count c i) nh) q) ∙ e))
    by false q = body_apart c a i y Y w nb nh x X (eqb-false (body_count c i) nb q)
