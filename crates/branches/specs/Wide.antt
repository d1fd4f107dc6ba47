-- Atoms that stand in a table.
use Rattle.std.specs.Prelude.{◌≡◌, List, ℕ, ◌*◌, length}
use Rattle.ir.specs.declared.atom.Atom.{Atom}
use Rattle.rules.specs.Run.{flat}
use Rattle.tables.specs.TabledLaws.{At}

-- the `count` atoms from atom `first` on are l
pub record AtomsAre (w : List ℕ) (first count : ℕ) (l : List Atom) : Type 0 where
  pub long : count ≡ length l
  pub there : At w (6 * first) (flat l)

-- for some l
pub record AtomsThere (w : List ℕ) (first count : ℕ) : Type 0 where
  pub list : List Atom
  pub are : AtomsAre w first count list
