-- Clause i of a list. Assumes nothing.
use Rattle.std.specs.Prelude.{List, ℕ, get_or}
use Rattle.rules.specs.State.{Clause}
use Rattle.tables.specs.Tabled.{no_clause}

abbrev pub nth : List Clause → ℕ → Clause
nth l i = get_or l i no_clause
