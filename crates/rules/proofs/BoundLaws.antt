-- Laws of `Each`, and of atoms and clauses within bounds: bounds may grow, and mapped variables stay below them.
use Rattle.std.specs.Prelude.{List, ℕ, ◌≤◌, ◌<◌}
use Rattle.std.proofs.Common.{arith}
use Rattle.ir.specs.Atoms.{atom_vars, substitute_atom}
use Rattle.ir.specs.declared.atom.Atom.{Atom}
use Rattle.ir.specs.declared.atom.Atom.TheVariants.{Class, Exists, AtMost, AtLeast, Equal, Role as RoleAtom}
use Rattle.rules.specs.State.{Clause}
use Rattle.rules.specs.Invariants.{Each, Bounds, AtomIn, ClauseIn}
use Rattle.rules.specs.EachLaws.{each_map}
use Rattle.rules.proofs.EmitLaws.{atom_more, clause_more}

-- ---- atoms and clauses
module _ (B : Bounds) where
  pub atoms_grow : {fresh fresh' vars vars' : ℕ} → fresh ≤ fresh' → vars ≤ vars' → (l : List Atom) → Each (AtomIn B fresh vars) l → Each (AtomIn B fresh' vars') l
  atoms_grow {fresh} {fresh'} {vars} {vars'} f v l h = each_map (AtomIn B fresh vars) (AtomIn B fresh' vars') (atom_more B f v) l h

  pub clauses_grow : {fresh fresh' vars vars' : ℕ} → fresh ≤ fresh' → vars ≤ vars' → (l : List Clause) → Each (ClauseIn B fresh vars) l → Each (ClauseIn B fresh' vars') l
  clauses_grow {fresh} {fresh'} {vars} {vars'} f v l h = each_map (ClauseIn B fresh vars) (ClauseIn B fresh' vars') (clause_more f v) l h

  -- variables mapped
  pub atom_substituted : (fresh : ℕ) {vars vars' : ℕ} (f : ℕ → ℕ) → ((v : ℕ) → v < vars → f v < vars') → (a : Atom) → AtomIn B fresh vars a → AtomIn B fresh vars' (substitute_atom a f)
  atom_substituted fresh f g (Class k u) h = (h.0, g u h.1)
  atom_substituted fresh f g (RoleAtom r u w) h = (h.0, g u h.1, g w h.2)
  atom_substituted fresh f g (Exists r k u) h = (h.0, h.1, g u h.2)
  atom_substituted fresh f g (AtMost r q n u) h = (h.0, h.1, h.2, g u h.3)
  atom_substituted fresh f g (AtLeast r q n u) h = (h.0, h.1, h.2, g u h.3)
  atom_substituted fresh f g (Equal u w) h = (g u h.0, g w h.1)

  pub vars_below : (fresh vars : ℕ) (a : Atom) → AtomIn B fresh vars a → Each (λ v. v < vars) (atom_vars a)
  vars_below fresh vars (Class k u) h = omega arith
  vars_below fresh vars (RoleAtom r u w) h = omega arith
  vars_below fresh vars (Exists r k u) h = omega arith
  vars_below fresh vars (AtMost r q n u) h = omega arith
  vars_below fresh vars (AtLeast r q n u) h = omega arith
  vars_below fresh vars (Equal u w) h = omega arith
