-- Roles by their codes, and the map on inverse roles. Assumes nothing.
use Rattle.std.specs.Prelude.{◌≡◌, refl, ℕ, ◌/◌, ◌%◌}
use Rattle.std.proofs.Common.{ne_eqb}
use Rattle.std.proofs.Math.Option.{Option, none, some}
use Rattle.ir.specs.Roles.{role_of, flipped}
use Rattle.ir.specs.declared.role.Role.{Role}
use Rattle.ir.specs.declared.role.Role.TheVariants.{Named, Inverse}
use Rattle.rules.specs.Inverse.{InverseCanon, lookup, canon_of, canon_role}

pub even_named : (c : ℕ) → c % 2 ≡ 0 → role_of c ≡ Named (c / 2)
even_named c e = rw e refl

pub odd_inverse : (c : ℕ) → (c % 2 ≡ 0 → ⊥) → role_of c ≡ Inverse (c / 2)
odd_inverse c h = rw (ne_eqb (c % 2) 0 h) refl

-- a role's inverse is mapped to the inverse of what the role is mapped to
pub canon_inverse : (m : InverseCanon) (i : ℕ) → canon_role m (Inverse i) ≡ flipped (canon_role m (Named i))
unfolding canon_role
canon_inverse m i = by (lookup m i)
  where
    by : (o : Option Role) → canon_of (Inverse i) o ≡ flipped (canon_of (Named i) o)
    by none = refl
    by (some r) = refl
