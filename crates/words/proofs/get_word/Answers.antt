use native.Mathlib.Omega.{arith}
use Rattle.words.specs.Laws.{get_words}
use Rattle.words.proofs.get_word.Goals as goal

pub returns : goal.returns
returns c = omega (arith, c.from_le_bytes.ensures, get_words c.args.s.now c.args.i c.requires)
