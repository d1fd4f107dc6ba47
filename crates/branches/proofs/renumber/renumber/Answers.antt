use mathlib.Core.Path.{refl, ◌∙◌}
use native.Mathlib.Omega.{arith}
use Rattle.words.specs.Words.{words}
use Rattle.words.specs.Laws.{length_words}
use Rattle.branches.specs.Layout.{met_at, keep_at, renumbered_at}
use Rattle.branches.specs.RenumberLaws.{renumbering_start, renumbering_on, renumbering_end, root_met, root_only, only_then, tame_at, atoms_kept, tame_kept}
use Rattle.branches.proofs.renumber.renumber.Goals as goal

pub loop-i-init : goal.loop-i-init
loop-i-init c = let u = c.put_word in (refl, renumbering_start met_at keep_at renumbered_at refl refl (words u.new.s) c.args.atoms.base c.args.atoms.count c.args.root (omega (arith, u.auto.s, c.requires.1, c.requires.3, length_words u.new.s)) (root_met met_at keep_at refl (words c.args.scratch.now) (words u.new.s) c.args.root (omega (arith, c.requires.3, length_words c.args.scratch.now)) u.ensures))

pub put_record-n-requires : goal.put_record-n-requires
put_record-n-requires c = let L = c.loop-i in let u = c.put_word in let O = root_only met_at keep_at refl (words c.args.scratch.now) (words u.new.s) c.args.root (omega (arith, c.requires.3, length_words c.args.scratch.now)) u.ensures in let T = tame_kept met_at (words c.args.scratch.now) (words u.new.s) c.args.atoms.base c.args.atoms.count O.before (omega (arith, c.requires.2)) c.requires.0 in let h = c.loop-i-test.true in
    (omega (arith, L.invariant.1.few, h, c.requires.1), omega (arith, h, c.requires.1), omega (arith, L.invariant.0, u.auto.s, c.requires.3), omega (arith, h, c.requires.2), tame_at met_at (words u.new.s) (words L.scratch) c.args.atoms.base c.args.atoms.count L.i L.invariant.1.only.before (omega (arith, c.requires.2)) T h)

pub loop-i-preserved : goal.loop-i-preserved
loop-i-preserved c = let L = c.loop-i in let u = c.put_word in let O = root_only met_at keep_at refl (words c.args.scratch.now) (words u.new.s) c.args.root (omega (arith, c.requires.3, length_words c.args.scratch.now)) u.ensures in let T = tame_kept met_at (words c.args.scratch.now) (words u.new.s) c.args.atoms.base c.args.atoms.count O.before (omega (arith, c.requires.2)) c.requires.0 in let h = c.loop-i-test.true in let v = c.put_record-n in
    (v.auto.scratch ∙ L.invariant.0, renumbering_on met_at keep_at renumbered_at refl refl (words u.new.s) c.args.atoms.base c.args.atoms.count c.args.root (omega (arith, u.auto.s, c.requires.1, c.requires.3, length_words u.new.s)) (words L.scratch) L.n L.i L.invariant.1 (omega (arith, c.requires.2)) (words v.new.scratch) v.result h v.ensures T)

pub returns : goal.returns
returns c = let L = c.loop-i in let u = c.put_word in let O = root_only met_at keep_at refl (words c.args.scratch.now) (words u.new.s) c.args.root (omega (arith, c.requires.3, length_words c.args.scratch.now)) u.ensures in
    record {
      at = λ l A. renumbering_end met_at keep_at renumbered_at refl refl (words u.new.s) c.args.atoms.base c.args.atoms.count c.args.root (omega (arith, u.auto.s, c.requires.1, c.requires.3, length_words u.new.s)) (words L.scratch) L.n L.i L.invariant.1 c.loop-i-test.false l (atoms_kept met_at (words c.args.scratch.now) (words u.new.s) c.args.atoms.base c.args.atoms.count l O.before (omega (arith, c.requires.2)) A);
      only_renumbered = only_then met_at keep_at (words c.args.scratch.now) (words u.new.s) (words L.scratch) O L.invariant.1.only;
    }
