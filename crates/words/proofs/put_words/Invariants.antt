use mathlib.Core.Path.{◌≡◌}
use lib.ListN.{take}
use Rattle.std.proofs.lemmas.List.Edits.{sets}
use Rattle.words.specs.Words.{words}
use Rattle.words.proofs.put_words.Given as goal

abbrev pub invariant-loop-i : goal.invariant-loop-i
invariant-loop-i l = words l.s ≡ sets (words l.initial.s) l.at (take l.i l.xs)
