-- Atoms: their variables, the mapping of their variables, and equality.
use Rattle.std.specs.Prelude.{List, [], ◌∷◌, ℕ, eqb}
use Rattle.ir.specs.Pick.{pick}
use Rattle.ir.specs.declared.atom.Atom.{Atom}
use Rattle.ir.specs.declared.atom.Atom.TheVariants.{Class, Exists, AtMost, AtLeast, Equal, Role as RoleAtom}
use Rattle.ir.specs.declared.atom.Vars.{Vars}
use Rattle.ir.specs.declared.atom.Vars.TheVariants.{One, Two}

abbrev pub vars_of : Vars → List ℕ
vars_of (One v) = v ∷ []
vars_of (Two u v) = u ∷ v ∷ []

-- atom_vars
abbrev pub atom_vars : Atom → List ℕ
atom_vars (Class k v) = v ∷ []
atom_vars (RoleAtom r u v) = u ∷ v ∷ []
atom_vars (Exists r k v) = v ∷ []
atom_vars (AtMost r q n v) = v ∷ []
atom_vars (AtLeast r q n v) = v ∷ []
atom_vars (Equal u v) = u ∷ v ∷ []

-- substitute_atom: every variable mapped through f
abbrev pub substitute_atom : Atom → (ℕ → ℕ) → Atom
substitute_atom (Class k v) f = Class k (f v)
substitute_atom (RoleAtom r u v) f = RoleAtom r (f u) (f v)
substitute_atom (Exists r k v) f = Exists r k (f v)
substitute_atom (AtMost r q n v) f = AtMost r q n (f v)
substitute_atom (AtLeast r q n v) f = AtLeast r q n (f v)
substitute_atom (Equal u v) f = Equal (f u) (f v)

-- keep for drop
abbrev pub replaced : ℕ → ℕ → ℕ → ℕ
replaced drop keep v = pick (eqb v drop) keep v
