-- The tables that the program lends. Assumes nothing.
use mathlib.Core.List.{List}
use Prim.Native.Nat.{ℕ}
use native.Mathlib.Omega.{arith}
use lib.ListN.{length}
use Rattle.words.specs.Words.{words}
use Rattle.words.specs.Laws.{length_words}
use Rattle.tables.specs.Drawn.{Sized}
use Rattle.staging.specs.Stage.{Blank}
use Rattle.clauses.specs.Stage.{lent}

pub blank_sized : (c a d : List ℕ) → Blank lent (words c) (words a) (words d) → Sized (length c) (length a) (length d)
blank_sized c a d B = record {
  clauses = omega (arith, B.sizes.clauses, length_words c);
  atoms = omega (arith, B.sizes.atoms, length_words a);
  deferrals = omega (arith, B.sizes.deferrals, length_words d);
}
