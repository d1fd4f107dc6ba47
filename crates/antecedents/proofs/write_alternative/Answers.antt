use native.Mathlib.Omega.{arith}
use Rattle.words.specs.Laws.{length_words}
use Rattle.antecedents.specs.WriteLaws.{written_by}
use Rattle.antecedents.proofs.write_alternative.Goals as goal

pub write_one-requires : goal.write_one-requires
write_one-requires c =
    (record { concepts = c.args.k.concepts; members = c.args.k.members; room = omega (arith, c.requires.4, c.requires.5); held = c.requires.0.held; inside = c.requires.3; named = c.requires.2 }, c.requires.4)

pub returns : goal.returns
returns c =
    written_by _ _ _ _ _ _ _ _ _ c.requires.0.held c.requires.1 c.requires.3 (omega (arith, c.requires.5, length_words c.args.scratch.now)) c.write_one.ensures
