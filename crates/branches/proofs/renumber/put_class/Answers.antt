use mathlib.Core.Path.{refl}
use native.Mathlib.Omega.{arith}
use Rattle.words.specs.Words.{words}
use Rattle.words.specs.Laws.{length_words}
use Rattle.branches.specs.Layout.{met_at, keep_at, renumbered_at}
use Rattle.branches.specs.RenumberLaws.{put_class}
use Rattle.branches.proofs.renumber.put_class.Goals as goal

pub returns : goal.returns
returns c = let u = c.meet-m in let q = c.pack-w in let y = c.put_word in
    put_class met_at keep_at renumbered_at refl refl (words c.args.scratch.now) c.args.n c.args.i c.requires.0 (omega (arith, c.requires.1, c.requires.2, length_words c.args.scratch.now)) c.args.k c.args.v (words u.new.scratch) (words y.new.s) u.result.0 u.result.1 q.result u.ensures.met u.ensures.place.0 q.ensures y.ensures
