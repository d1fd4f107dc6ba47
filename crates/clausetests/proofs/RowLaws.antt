-- The sets of a pair, narrowed by an atom one after the other. Assumes nothing.
use mathlib.Core.Path.{◌≡◌, refl, sym, ap, ◌∙◌}
use mathlib.Core.Bool.{Bool, ◌&&◌}
use mathlib.Core.List.{List}
use Prim.Native.Nat.{ℕ, ◌+◌, ◌*◌, ◌<◌, ◌≤◌}
use native.Mathlib.Omega.{arith}
use lib.ListN.{length}
use Rattle.words.specs.Words.{words}
use Rattle.ir.specs.declared.atom.Atom.{Atom}
use Rattle.rules.specs.Semantics.{Interpretation, atom_holds, chosen}
use Rattle.states.specs.Masks.{mask_of}
use Rattle.sets.specs.Kept.{set_at}
use Rattle.clausetests.specs.Given.{Given, NamesRoles, AtomThere}
use Rattle.clausetests.specs.Fitting.{turned, Changed}
use Rattle.clausetests.proofs.FittingLaws.{changed_none, given_kept, atom_kept, sets_done, sets_left, sets_changed}

module _ (s₀ : List ℕ) (a : Atom) (at f : ℕ) (head : Bool) (size : ℕ) where
  -- what the atom allows behind e, of what R allows
  abbrev pub row_with : Interpretation → (ℕ → ℕ → Bool) → ℕ → ℕ → Bool
  row_with I R e y = R e y && turned head (atom_holds I (chosen (λ _. e) f y) a)

  -- before the set of element e
  pub record Rows (s : List ℕ) (e : ℕ) : Type 0 where
    pub long : length s ≡ length s₀
    pub other : Changed (2 * at) (2 * (at + 64)) (words s₀) (words s)
    pub left : (q : ℕ) → e ≤ q → q < size → set_at (words s) (at + q) ≡ set_at (words s₀) (at + q)
    pub done : (I : Interpretation) (roles : ℕ) (text w : List ℕ) (R : ℕ → ℕ → Bool) → Given I roles size text w (words s₀) → NamesRoles roles a → ((q : ℕ) → q < size → set_at (words s₀) (at + q) ≡ mask_of size (R q))
        → (q : ℕ) → q < e → set_at (words s) (at + q) ≡ mask_of size (row_with I R q)

  pub rows_start : Rows s₀ 0
  rows_start = record {
    long = refl;
    other = changed_none (2 * at) (2 * (at + 64)) (words s₀);
    left = λ q h l. refl;
    done = λ I roles text w R G N h q l. absurd (omega arith);
  }

  module _ (s : List ℕ) (e : ℕ) (H : Rows s e) where
    pub rows_there : at + 64 ≤ 44032 → (text store : List ℕ) → AtomThere size a text store s₀ → AtomThere size a text store s
    rows_there h text store A = atom_kept (2 * at) (2 * (at + 64)) size a text store s₀ s (omega arith) H.long H.other A

    -- row: the atom's set; s' has it
    module _ (lt : e < size) (low : at + 64 ≤ 44032) (small : size ≤ 64) (m : ℕ) (s' : List ℕ) (long' : length s' ≡ length s)
        (row : (I : Interpretation) (roles : ℕ) (text w : List ℕ) → Given I roles size text w (words s) → NamesRoles roles a → m ≡ mask_of I.size (λ y. atom_holds I (chosen (λ _. e) f y) a))
        (put : (n : ℕ) (g h : ℕ → Bool) → set_at (words s) (at + e) ≡ mask_of n g → m ≡ mask_of n h → set_at (words s') (at + e) ≡ mask_of n (λ y. g y && turned head (h y)))
        (C : Changed (2 * (at + e)) (2 * (at + e) + 2) (words s) (words s')) where
      pub rows_next : Rows s' (e + 1)
      rows_next = record {
        long = long' ∙ H.long;
        other = sets_changed at e (words s) (words s') C 64 (words s₀) (omega arith) H.other;
        left = sets_left at e (words s) (words s') C size (words s₀) H.left;
        done = λ I roles text w R G N h. sets_done at e (words s) (words s') C (λ q. mask_of size (row_with I R q)) (H.done I roles text w R G N h)
            (put size (R e) (λ y. atom_holds I (chosen (λ _. e) f y) a) (H.left e (omega arith) lt ∙ h e lt)
            (row I roles text w (given_kept (2 * at) (2 * (at + 64)) (words s₀) (words s) H.other (omega arith) I roles size text w G) N ∙ ap (λ (k : ℕ). mask_of k (λ y. atom_holds I (chosen (λ _. e) f y) a)) (sym G.elements)));
      }
