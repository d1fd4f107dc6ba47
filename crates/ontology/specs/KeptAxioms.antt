-- Axioms stand where their words do. Assumes nothing.
use Rattle.std.specs.Prelude.{◌≡◌, Bool, true, false, List, ℕ, ◌+◌, ◌*◌, ◌<◌, ◌≤◌, get_or, eqb, leb}
use Rattle.std.proofs.Common.{ap, ◌∙◌, arith, zero-add, eqb-true, leb-true}
use Rattle.ir.specs.Pick.{pick}
use Rattle.ir.specs.Scratch.{axioms_at, numbers_at, lines_at}
use Rattle.rules.specs.Deck.{axiom_of, is_list_kind, fixed_of, fields_ok}
use Rattle.pool.specs.Layout.{run}
use Rattle.pool.specs.Tabs.{tab_same}
use Rattle.ontology.specs.Layout.{axiom_start, axiom_count, axiom_number, axiom_row, axiom_at, axioms_of, AxiomsHeld}

-- a line has its kind
pub fields_some : (k n : ℕ) → fields_ok k n ≡ true → 1 ≤ n
fields_some k n = go (is_list_kind k)
  where
    go : (b : Bool) → pick b (leb (1 + fixed_of k) n) (eqb n (1 + fixed_of k)) ≡ true → 1 ≤ n
    go true e = omega (arith, leb-true (1 + fixed_of k) n e)
    go false e = omega (arith, eqb-true n (1 + fixed_of k) e)

pub kind_inside : (w : List ℕ) (n i : ℕ) → AxiomsHeld w n → i < n → numbers_at + axiom_start w i + 0 < lines_at
kind_inside w n i H h = let q = fields_some (axiom_number w i 0) (axiom_count w i) (H.fields i h) in omega (arith, H.within i h)

module _ (w w' : List ℕ) (n : ℕ) (H : AxiomsHeld w n) (K : (j : ℕ) → axioms_at ≤ j → j < lines_at → get_or w' j 0 ≡ get_or w j 0) where
  start_kept : (i : ℕ) → i < n → axiom_start w' i ≡ axiom_start w i
  start_kept i h = K (axioms_at + 2 * i) (omega arith) (omega (arith, H.few))

  count_kept : (i : ℕ) → i < n → axiom_count w' i ≡ axiom_count w i
  count_kept i h = K (axioms_at + 2 * i + 1) (omega arith) (omega (arith, H.few))

  number_kept : (i j : ℕ) → i < n → j < axiom_count w i → axiom_number w' i j ≡ axiom_number w i j
  number_kept i j h l = rw (start_kept i h) (K (numbers_at + axiom_start w i + j) (omega arith) (omega (arith, H.within i h)))

  kind_kept : (i : ℕ) → i < n → axiom_number w' i 0 ≡ axiom_number w i 0
  kind_kept i h = number_kept i 0 h (fields_some (axiom_number w i 0) (axiom_count w i) (H.fields i h))

  row_kept : (i : ℕ) → i < n → axiom_row w' i ≡ axiom_row w i
  row_kept i h =
      ap (λ (x : ℕ). run w' (numbers_at + x) (axiom_count w' i)) (start_kept i h) ∙ ap (run w' (numbers_at + axiom_start w i)) (count_kept i h)
      ∙ tab_same (λ j. get_or w' j 0) (λ j. get_or w j 0) _ _ (axiom_count w i) (λ j l. K (numbers_at + axiom_start w i + j) (omega arith) (omega (arith, H.within i h)))

  pub axiom_kept : (i : ℕ) → i < n → axiom_at w' i ≡ axiom_at w i
  axiom_kept i h = ap (λ (x : ℕ). axiom_of x (axiom_row w' i)) (kind_kept i h) ∙ ap (axiom_of (axiom_number w i 0)) (row_kept i h)

  pub axioms_kept : axioms_of w' n ≡ axioms_of w n
  axioms_kept = tab_same (axiom_at w') (axiom_at w) 0 0 n (λ i h. rw (zero-add i) (axiom_kept i h))

  pub held_axioms : AxiomsHeld w' n
  held_axioms = record {
    few = H.few;
    within = λ i h. rw (start_kept i h, count_kept i h) (H.within i h);
    apart = λ i j h l. rw (start_kept i (omega arith), count_kept i (omega arith), start_kept j l) (H.apart i j h l);
    kinds = λ i h. rw (kind_kept i h) (H.kinds i h);
    fields = λ i h. rw (kind_kept i h, count_kept i h) (H.fields i h);
  }
