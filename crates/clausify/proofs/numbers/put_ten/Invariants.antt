use Rattle.std.specs.Prelude.{◌≡◌, take}
use Rattle.std.proofs.lemmas.List.Edits.{sets}
use Rattle.words.specs.Words.{words}
use Rattle.clausify.specs.Answer.{ten_of}
use Rattle.clausify.proofs.numbers.put_ten.Given as goal

abbrev pub invariant-loop-i : goal.invariant-loop-i
invariant-loop-i l = words l.numbers ≡ sets (words l.fn.numbers) 0 (take l.i (ten_of l.fn.n.stats l.fn.n.fresh_ids l.fn.n.visits))
