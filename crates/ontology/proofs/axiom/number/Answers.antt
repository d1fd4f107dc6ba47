use mathlib.Core.Path.{ap, ◌∙◌}
use Prim.Native.Nat.{ℕ, ◌+◌}
use lib.ListN.{get_or}
use Rattle.words.specs.Words.{words}
use Rattle.ir.specs.Scratch.{numbers_at}
use Rattle.ontology.proofs.axiom.number.Goals as goal

pub returns : goal.returns
returns c =
    c.get_word.ensures ∙ ap (λ (j : ℕ). get_or (words c.args.scratch.now) (numbers_at + j + c.args.j) 0) c.start.ensures
