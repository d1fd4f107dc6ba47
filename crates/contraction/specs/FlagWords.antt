-- Role atoms over flagged roles, as they were read. Assumes nothing.
use Rattle.std.specs.Prelude.{◌≡◌, refl, false, List, ℕ, ◌*◌, ◌<◌, eqb, get_or, Some}
use Rattle.std.proofs.Common.{sym, ap, subst, ◌∙◌, arith, eq-eqb, ne_eqb}
use Rattle.ir.specs.Records.{six, atom_at, Read}
use Rattle.ir.specs.Roles.{role_id, role_code}
use Rattle.ir.specs.declared.role.Role.{Role}
use Rattle.ir.specs.declared.role.Role.TheVariants.{Named, Inverse}
use Rattle.ir.specs.declared.atom.Atom.{Atom}
use Rattle.ir.specs.declared.atom.Atom.TheVariants.{Class, Exists, AtMost, AtLeast, Equal, Role as RoleAtom}
use Rattle.rules.specs.Base.{contains}
use Rattle.rules.specs.Deck.{most_roles}
use Rattle.rules.specs.Reflexive.{is_reflexive, is_self_loop}
use Rattle.contraction.specs.InHands.{AtomThere}
use Rattle.contraction.specs.ContractLaws.{read_same}

pub code_small : (r : Role) → role_code r < 2 * most_roles → role_id r < most_roles
code_small (Named i) h = omega arith
code_small (Inverse i) h = omega arith

-- a role atom's role is one that there may be
pub role_small : (w : List ℕ) (i : ℕ) → AtomThere w i → (r : Read) → r ≡ atom_at w i → (a : Atom) (q : Role) (u v : ℕ) → r ≡ Some a → a ≡ RoleAtom q u v → role_id q < most_roles
role_small w i A r e a q u v f g =
    let z : A.atom ≡ RoleAtom q u v = sym (read_same w i A r e A.atom a A.there f) ∙ g in
    code_small q (subst (λ (y : Atom). get_or (six y) 1 0 < 2 * most_roles) z A.plain.role)

-- R(u, v) over a reflexive role, and the loop of one
module _ (set : List ℕ) (x a : Atom) (f : a ≡ x) where
  module _ (q : Role) (u v : ℕ) (g : a ≡ RoleAtom q u v) where
    pub role_reflexive : is_reflexive set x ≡ contains set (role_id q)
    role_reflexive = ap (is_reflexive set) (sym f ∙ g)

    pub role_loop : u ≡ v → is_self_loop set x ≡ contains set (role_id q)
    role_loop e = ap (is_self_loop set) (sym f ∙ g) ∙ rw (eq-eqb u v e) refl

    pub role_apart : (u ≡ v → ⊥) → is_self_loop set x ≡ eqb u v
    role_apart e = ap (is_self_loop set) (sym f ∙ g) ∙ rw (ne_eqb u v e) refl

  module _ (g : (q : Role) (u v : ℕ) → a ≡ RoleAtom q u v → ⊥) where
    pub other_reflexive : is_reflexive set x ≡ false
    other_reflexive = by x f
      where
        by : (y : Atom) → a ≡ y → is_reflexive set y ≡ false
        by (Class k v) h = refl
        by (RoleAtom r u v) h = absurd (g r u v h)
        by (Exists r k v) h = refl
        by (AtMost r q n v) h = refl
        by (AtLeast r q n v) h = refl
        by (Equal u v) h = refl

    pub other_loop : is_self_loop set x ≡ false
    other_loop = by x f
      where
        by : (y : Atom) → a ≡ y → is_self_loop set y ≡ false
        by (Class k v) h = refl
        by (RoleAtom r u v) h = absurd (g r u v h)
        by (Exists r k v) h = refl
        by (AtMost r q n v) h = refl
        by (AtLeast r q n v) h = refl
        by (Equal u v) h = refl
