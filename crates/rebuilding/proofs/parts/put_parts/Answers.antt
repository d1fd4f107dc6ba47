use native.Mathlib.Omega.{arith}
use Rattle.words.specs.Words.{words}
use Rattle.rebuilding.proofs.PartLaws.{list_fits, put_list}
use Rattle.rebuilding.proofs.parts.put_parts.Goals as goal

pub move_words-requires : goal.move_words-requires
move_words-requires c = list_fits c.requires c.number-number.ensures c.child-child.ensures (omega (arith, c.kind.ensures)) (omega (arith, c.kind.ensures))

pub returns-in-7-clause-scratch_after : goal.returns-in-7-clause-scratch_after
returns-in-7-clause-scratch_after c =
    put_list c.requires c.number-number.ensures c.child-child.ensures (omega (arith, c.kind.ensures)) (omega (arith, c.kind.ensures)) c.args.negated (words c.move_words.new.s) c.move_words.ensures
