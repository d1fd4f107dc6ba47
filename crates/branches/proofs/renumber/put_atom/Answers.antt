use denote.Enum.Declared.{tag_of}
use types.Run.{OneOf}
use mathlib.Core.Path.{sym, subst}
use mathlib.Core.Logic.{⊎_elim}
use mathlib.Core.List.{[], ◌∷◌}
use native.Mathlib.Omega.{arith}
use Rattle.words.specs.Words.{words}
use Rattle.ir.specs.declared.atom.Atom.{Atom}
use Rattle.ir.specs.declared.atom.Atom.TheVariants.{Class, Exists, AtMost, AtLeast, Equal, Role as RoleAtom}
use Rattle.ir.specs.contracts.atom.Atom.{the_type}
use Rattle.branches.specs.Layout.{met_at, keep_at, renumbered_at}
use Rattle.branches.specs.Memo.{Tame}
use Rattle.branches.specs.Renumbered.{Put}
use Rattle.branches.proofs.renumber.put_atom.Goals as goal

-- the tags of the other kinds
other_tame : (a : Atom) → OneOf (2 ∷ 3 ∷ 4 ∷ 5 ∷ []) (tag_of the_type a) → Tame a → ⊥
other_tame (Class _ _) h t = ⊎_elim (λ e. omega (arith, e)) (⊎_elim (λ e. omega (arith, e)) (⊎_elim (λ e. omega (arith, e)) (λ e. omega (arith, e)))) h
other_tame (RoleAtom _ _ _) h t = ⊎_elim (λ e. omega (arith, e)) (⊎_elim (λ e. omega (arith, e)) (⊎_elim (λ e. omega (arith, e)) (λ e. omega (arith, e)))) h
other_tame (Exists _ _ _) h t = t
other_tame (AtMost _ _ _ _) h t = t
other_tame (AtLeast _ _ _ _) h t = t
other_tame (Equal _ _) h t = t

pub returns-in-Class : goal.returns-in-Class
returns-in-Class c = let u = c.put_class in
    subst (λ (x : Atom). Put met_at keep_at renumbered_at (words c.args.scratch.now) c.args.n c.args.i x (words u.new.scratch) u.result) (sym c.in-Class.is) u.ensures

pub returns-in-Role : goal.returns-in-Role
returns-in-Role c = let u = c.put_role in
    subst (λ (x : Atom). Put met_at keep_at renumbered_at (words c.args.scratch.now) c.args.n c.args.i x (words u.new.scratch) u.result) (sym c.in-Role.is) u.ensures
