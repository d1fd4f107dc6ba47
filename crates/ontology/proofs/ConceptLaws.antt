-- A concept's row in words is its record and its list. Assumes nothing.
use mathlib.Core.Path.{◌≡◌, refl, sym, ap, ◌∙◌}
use mathlib.Core.List.{List}
use Prim.Native.Nat.{ℕ, suc, ◌+◌, ◌-◌, ◌<◌}
use native.Mathlib.Omega.{arith}
use lib.ListN.{length, get_or}
use Rattle.rules.specs.Concept.{Concept, concept_row}
use Rattle.rules.specs.Concept.{Top, Bot, Atomic, Nominal, SelfRestriction, Not, And, Or, Some, All, Min, Max}
use Rattle.rules.specs.Pool.{width}
use Rattle.pool.specs.Layout.{tab, run, count_of, concept_from, concept_over, plain, listed}
use Rattle.pool.specs.Tabs.{length_tab, get_d_tab, run_is}
use Rattle.pool.specs.Shapes.{plain_back}
use Rattle.ontology.specs.Lines.{record_for}

pub width_row : (e : Concept) → width e < length (concept_row e)
width_row Top = omega arith
width_row Bot = omega arith
width_row (Atomic _) = omega arith
width_row (Nominal _) = omega arith
width_row (SelfRestriction _) = omega arith
width_row (Not _) = omega arith
width_row (And _) = omega arith
width_row (Or _) = omega arith
width_row (Some _ _) = omega arith
width_row (All _ _) = omega arith
width_row (Min _ _ _) = omega arith
width_row (Max _ _ _) = omega arith

-- the words that a shorter line lacks do not matter
record_row : (e : Concept) (a b c n : ℕ) → n ≡ length (concept_row e) → (1 < n → a ≡ get_or (concept_row e) 1 0) → (2 < n → b ≡ get_or (concept_row e) 2 0) → (3 < n → c ≡ get_or (concept_row e) 3 0)
    → record_for (get_or (concept_row e) 0 0) a b c n ≡ plain e
record_row Top a b c n l f g h = refl
record_row Bot a b c n l f g h = refl
record_row (Atomic _) a b c n l f g h = rw (f (omega arith)) refl
record_row (Nominal _) a b c n l f g h = rw (f (omega arith)) refl
record_row (SelfRestriction _) a b c n l f g h = rw (f (omega arith)) refl
record_row (Not _) a b c n l f g h = rw (f (omega arith)) refl
record_row (And m) a b c n l f g h = let q : n - 1 ≡ length m = omega arith in rw q refl
record_row (Or m) a b c n l f g h = let q : n - 1 ≡ length m = omega arith in rw q refl
record_row (Some _ _) a b c n l f g h = rw (f (omega arith), g (omega arith)) refl
record_row (All _ _) a b c n l f g h = rw (f (omega arith), g (omega arith)) refl
record_row (Min _ _ _) a b c n l f g h = rw (f (omega arith), g (omega arith), h (omega arith)) refl
record_row (Max _ _ _) a b c n l f g h = rw (f (omega arith), g (omega arith), h (omega arith)) refl

list_row : (w : List ℕ) (at : ℕ) (e : Concept) → ((j : ℕ) → j < length (concept_row e) → get_or w (at + j) 0 ≡ get_or (concept_row e) j 0) → run w (at + 1) (count_of (plain e)) ≡ listed e
unfolding tab
list_row w at Top h = refl
list_row w at Bot h = refl
list_row w at (Atomic _) h = refl
list_row w at (Nominal _) h = refl
list_row w at (SelfRestriction _) h = refl
list_row w at (Not _) h = refl
list_row w at (And l) h = run_is w (at + 1) l (λ j g. let q : at + 1 + j ≡ at + suc j = omega arith in rw q (h (suc j) (omega arith)))
list_row w at (Or l) h = run_is w (at + 1) l (λ j g. let q : at + 1 + j ≡ at + suc j = omega arith in rw q (h (suc j) (omega arith)))
list_row w at (Some _ _) h = refl
list_row w at (All _ _) h = refl
list_row w at (Min _ _ _) h = refl
list_row w at (Max _ _ _) h = refl

-- the n words from `at` on are the row of e
module _ (w : List ℕ) (at n : ℕ) (e : Concept) (E : run w at n ≡ concept_row e) where
  long : n ≡ length (concept_row e)
  long = sym (length_tab (λ j. get_or w j 0) at n) ∙ ap length E

  word : (j : ℕ) → j < n → get_or w (at + j) 0 ≡ get_or (concept_row e) j 0
  word j l = sym (get_d_tab (λ j. get_or w j 0) 0 at n j l) ∙ ap (λ (r : List ℕ). get_or r j 0) E

  pub record_is : record_for (get_or w at 0) (get_or w (at + 1) 0) (get_or w (at + 2) 0) (get_or w (at + 3) 0) n ≡ plain e
  record_is =
      let z : at ≡ at + 0 = omega arith in
      let k : get_or w at 0 ≡ get_or (concept_row e) 0 0 = ap (λ (j : ℕ). get_or w j 0) z ∙ word 0 (omega (arith, long, width_row e)) in
      rw k (record_row e (get_or w (at + 1) 0) (get_or w (at + 2) 0) (get_or w (at + 3) 0) n long (word 1) (word 2) (word 3))

  pub concept_is : concept_over w (at + 1) (plain e) ≡ e
  concept_is = ap (concept_from (plain e)) (list_row w at e (λ j l. word j (omega (arith, long)))) ∙ plain_back e
