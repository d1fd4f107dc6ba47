-- The filler of a number restriction: a class, or none for Top.
use Rattle.std.specs.Prelude.{Option, ℕ}

abbrev pub Qualifier : Type 0
Qualifier = Option ℕ
