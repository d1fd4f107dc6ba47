use native.Mathlib.Omega.{arith}
use Rattle.words.specs.Words.{words}
use Rattle.words.specs.Laws.{length_words}
use Rattle.branches.specs.FrontLaws.{front_atoms, front_only}
use Rattle.branches.proofs.edges.to_front.Goals as goal

pub returns : goal.returns
returns c = let m = c.insert in record {
  atoms_are = front_atoms (words c.args.scratch.now) (words m.new.scratch) c.args.atoms.base c.args.atoms.count c.args.e m.ensures c.requires.1 c.requires.2 (omega (arith, c.requires.3, length_words c.args.scratch.now));
  only_records = front_only (words c.args.scratch.now) (words m.new.scratch) c.args.atoms.base c.args.atoms.count c.args.e m.ensures c.requires.1 c.requires.2;
}
