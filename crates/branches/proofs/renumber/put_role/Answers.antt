use mathlib.Core.Path.{refl}
use native.Mathlib.Omega.{arith}
use Rattle.words.specs.Words.{words}
use Rattle.words.specs.Laws.{length_words}
use Rattle.branches.specs.Layout.{met_at, keep_at, renumbered_at}
use Rattle.branches.specs.RenumberLaws.{put_role}
use Rattle.branches.proofs.renumber.put_role.Goals as goal

pub returns : goal.returns
returns c = let u1 = c.meet-l in let u2 = c.meet-m in let q = c.pack-w in let y = c.put_word in
    put_role met_at keep_at renumbered_at refl refl (words c.args.scratch.now) c.args.n c.args.i c.requires.0 (omega (arith, c.requires.1, c.requires.2, length_words c.args.scratch.now)) c.args.r c.args.u c.args.v (words u1.new.scratch) (words u2.new.scratch) (words y.new.s) u1.result.0 u2.result.0 u1.result.1 u2.result.1 q.result u1.ensures.met u2.ensures.met u1.ensures.place.0 u2.ensures.place.0 q.ensures y.ensures
