-- A line's numbers, in scratch.
use Rattle.std.specs.Prelude.{List, ℕ}
use Rattle.words.specs.Words.{words}
use Rattle.layouts.specs.Lines.{line_in}
use Rattle.layouts.specs.declared.numbers.Numbers.{Numbers}

abbrev pub numbers : Numbers → List ℕ
numbers r = line_in (words r.scratch.now) r.count
