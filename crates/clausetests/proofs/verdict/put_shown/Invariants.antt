use Rattle.std.proofs.Common.{◌≡◌, take, length}
use Rattle.std.proofs.lemmas.List.Edits.{sets}
use Rattle.words.specs.Words.{words}
use Rattle.sets.specs.Places.{shown_at}
use Rattle.clausetests.proofs.verdict.put_shown.Given as goal

abbrev pub invariant-loop-i : goal.invariant-loop-i
invariant-loop-i l = (length l.found ≡ 4) × (words l.scratch ≡ sets (words l.initial.scratch) shown_at (take l.i l.found))
