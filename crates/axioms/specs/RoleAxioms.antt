-- The axioms over roles, as the code parts them.
use Rattle.std.specs.Prelude.{◌≡◌, refl, Bool, true, false, [], ◌∷◌, ℕ}
use Prim.{Unit}
use Rattle.ir.specs.declared.role.Role.{Role}
use Rattle.ir.specs.declared.atom.Atom.{Atom}
use Rattle.ir.specs.declared.atom.Atom.TheVariants.{Role as RoleAtom}
use Rattle.rules.specs.Base.{◌>>=◌, ◌>>◌}
use Rattle.rules.specs.Pool.{Pool}
use Rattle.rules.specs.State.{Env, E, canon, restart_vars, fresh_var, push}
use Rattle.rules.specs.Axioms.{domain, range, asymmetric, disjoint_roles}
pub use Rattle.hands.specs.Place.{hand_at, in_hand_bytes}

abbrev pub irreflexive : Env → Role → E (Unit {0})
irreflexive env r = push env (RoleAtom (canon env r) 0 0 ∷ []) []

-- an asymmetric role (back), or two disjoint ones
abbrev pub second_atom : Role → ℕ → Bool → Atom
second_atom r y true = RoleAtom r y 0
second_atom r y false = RoleAtom r 0 y

abbrev pub not_both : Env → Role → Role → Bool → E (Unit {0})
not_both env r s back = do
  restart_vars
  y ← fresh_var
  push env (RoleAtom (canon env r) 0 y ∷ second_atom (canon env s) y back ∷ []) []

-- role(X, y) gives the concept at y (true), or at X
abbrev pub domain_or_range : Env → Role → ℕ → Bool → Pool → E (Unit {0})
domain_or_range env r c true = range env r c
domain_or_range env r c false = domain env r c

-- the rules' own
pub asymmetric_is : (env : Env) (r : Role) (pool : Pool) → asymmetric env r pool ≡ not_both env r r true
unfolding asymmetric
asymmetric_is env r pool = refl

pub disjoint_is : (env : Env) (r s : Role) (pool : Pool) → disjoint_roles env (r, s) pool false ≡ not_both env r s false
disjoint_is env r s pool = refl
