-- The lines as the code has them: a row's numbers, and the words of the table that say where a line is.
use Rattle.std.specs.Prelude.{List, ℕ, suc, ◌+◌, get_or, Option, Some, None}
use Rattle.text.specs.Rows.{row_at}
use Rattle.deck.specs.declared.row.Line.{Line}
use Rattle.deck.specs.declared.row.Row.{Row}

abbrev pub numbers : Row → List ℕ
numbers r = row_at r.deck.now r.line.begin r.line.fields

-- the line whose two words begin at word i
abbrev pub line_in : List ℕ → ℕ → Line
line_in w i = record { begin = get_or w i 0; fields = get_or w (i + 1) 0 }

-- a concept line's number as a word of the index: one more, and 0 for none
abbrev pub link_word : Option ℕ → ℕ
link_word None = 0
link_word (Some i) = suc i
