use mathlib.Core.Path.{sym, subst, ◌∙◌}
use Rattle.words.specs.Words.{words}
use Rattle.ir.specs.declared.atom.Atom.{Atom}
use Rattle.branches.specs.Layout.{met_at, keep_at, renumbered_at}
use Rattle.branches.specs.Renumbered.{Put}
use Rattle.branches.specs.RenumberLaws.{read_same}
use Rattle.branches.proofs.renumber.put_record.Goals as goal

pub returns : goal.returns
returns c = let u = c.put_atom in
    λ a e. subst (λ (x : Atom). Put met_at keep_at renumbered_at (words c.args.scratch.now) c.args.n c.args.i x (words u.new.scratch) u.result) (read_same (words c.args.scratch.now) c.args.at c.in-Some.a a (sym c.get_atom.ensures ∙ c.in-Some.is) e) u.ensures
