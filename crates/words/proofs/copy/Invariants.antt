use mathlib.Core.Path.{◌≡◌}
use lib.ListN.{length, take}
use Rattle.std.proofs.lemmas.List.Edits.{sets}
use Rattle.words.proofs.copy.Given as goal

abbrev pub invariant-loop-i : goal.invariant-loop-i
invariant-loop-i l = (l.s ≡ sets l.initial.s 0 (take l.i l.run)) × (length l.s ≡ length l.initial.s)
