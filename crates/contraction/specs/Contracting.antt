-- Atoms put in hand one after the other, with one variable for another.
use Rattle.std.specs.Prelude.{◌≡◌, List, ℕ, ◌*◌, ◌/◌, ◌≤◌, length, take}
use Rattle.ir.specs.declared.atom.Atom.{Atom}
use Rattle.rules.specs.Reflexive.{substituted}
use Rattle.hands.specs.Hands.{InHand}
use Rattle.tables.specs.Tabled.{Run}

-- the atoms of the part s became atoms `to` on of scratch, whose words are w
abbrev pub Substituted : List ℕ → ℕ → ℕ → ℕ → List ℕ → Type 0
Substituted s to drop keep w = (l : List Atom) → Run s l → InHand w to (length l) (substituted drop keep l)

-- the words w of scratch after the first i of them; w₀ before
pub record PutAt (s : List ℕ) (to drop keep : ℕ) (w₀ w : List ℕ) (i : ℕ) : Type 0 where
  pub within : i ≤ length s / 24
  pub frame : take (6 * to) w ≡ take (6 * to) w₀
  pub so : (l : List Atom) → Run s l → InHand w to i (substituted drop keep (take i l))
