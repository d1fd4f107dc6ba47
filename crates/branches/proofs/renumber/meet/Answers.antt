use native.Mathlib.Omega.{arith}
use Rattle.words.specs.Words.{words}
use Rattle.words.specs.Laws.{length_words}
use Rattle.branches.specs.Layout.{met_at, keep_at}
use Rattle.branches.specs.MetLaws.{meet_new, meet_last}
use Rattle.branches.proofs.renumber.meet.Goals as goal

pub returns-in-None : goal.returns-in-None
returns-in-None c = let w = words c.args.scratch.now in let long = length_words c.args.scratch.now in let u = c.put_word in record {
  met = meet_new met_at keep_at w c.args.n c.args.v (omega (arith, c.requires.0, c.requires.1, long)) (omega (arith, c.requires.0)) (words u.new.s) c.in-None.ensures u.ensures;
  place = (meet_last met_at keep_at w c.args.n c.args.v (omega (arith, c.requires.0, c.requires.1, long)) (omega (arith, c.requires.0)) c.in-None.ensures, omega arith);
}
