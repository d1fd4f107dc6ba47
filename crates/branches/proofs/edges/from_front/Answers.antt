use native.Mathlib.Omega.{arith}
use Rattle.words.specs.Words.{words}
use Rattle.words.specs.Laws.{length_words}
use Rattle.branches.specs.FrontLaws.{back_atoms, back_only}
use Rattle.branches.proofs.edges.from_front.Goals as goal

pub returns : goal.returns
returns c = let m1 = c.copy_record in let m2 = c.move_words in let m3 = c.copy_record-2 in record {
  atoms_are = back_atoms (words c.args.scratch.now) (words m1.new.scratch) (words m2.new.s) (words m3.new.scratch) c.args.atoms.base c.args.atoms.count c.args.e m1.ensures m2.ensures m3.ensures c.requires.1 c.requires.2 (omega (arith, c.requires.3, length_words c.args.scratch.now));
  only_records = back_only (words c.args.scratch.now) (words m1.new.scratch) (words m2.new.s) (words m3.new.scratch) c.args.atoms.base c.args.atoms.count c.args.e m1.ensures m2.ensures m3.ensures c.requires.1 c.requires.2;
}
