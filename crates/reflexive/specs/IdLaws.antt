-- The ids that role codes are mapped to. Assumes nothing.
use Rattle.std.specs.Prelude.{◌≡◌, refl, List, [], ◌∷◌, ℕ, zero, suc, ◌+◌, ◌*◌, ◌/◌, ◌%◌, ◌<◌, eqb, get_or}
use Rattle.std.proofs.Common.{sym, ap, ◌∙◌, arith, eqb-true}
use Rattle.std.proofs.Math.Option.{some}
use Rattle.std.proofs.lemmas.Bool.{eqb-false}
use Rattle.ir.specs.Scratch.{roles_at}
use Rattle.ir.specs.Roles.{role_id, role_code, role_of, code_role, flip_id}
use Rattle.ir.specs.declared.role.Role.{Role}
use Rattle.ir.specs.declared.role.Role.TheVariants.{Named, Inverse}
use Rattle.rules.specs.Deck.{most_roles}
use Rattle.rules.specs.Inverse.{InverseCanon, lookup, canon_of, canon_role}
use Rattle.rules.specs.TextLaws.{by_test}
use Rattle.inverse.specs.Layout.{RolesHeld}
use Rattle.inverse.specs.Laws.{even_named, odd_inverse, canon_inverse}
use Rattle.reflexive.specs.Steps.{id_at}

pub code_id : (r : Role) → role_code r / 2 ≡ role_id r
code_id (Named i) = omega arith
code_id (Inverse i) = omega arith

pub mapped_id : (w : List ℕ) (m : InverseCanon) (c : ℕ) → RolesHeld w m → c < 2 * most_roles → role_id (canon_role m (role_of c)) ≡ id_at w c
mapped_id w m c H h = by_test (eqb (c % 2) 0)
    (λ e. ap (λ (r : Role). role_id (canon_role m r)) (even_named c (eqb-true (c % 2) 0 e)) ∙ named)
    (λ e. ap (λ (r : Role). role_id (canon_role m r)) (odd_inverse c (eqb-false (c % 2) 0 e)) ∙ ap role_id (canon_inverse m (c / 2)) ∙ flip_id (canon_role m (Named (c / 2))) ∙ named)
  where
    named : role_id (canon_role m (Named (c / 2))) ≡ id_at w c
    named = sym (code_id (canon_role m (Named (c / 2)))) ∙ ap (λ (x : ℕ). x / 2) (sym (H.mapped (c / 2) (omega arith)))

-- the map that any words hold
own_map : List ℕ → ℕ → InverseCanon
own_map w zero = []
own_map w (suc n) = record { key = n; value = role_of (get_or w (roles_at + n) 0) } ∷ own_map w n

own_lookup : (w : List ℕ) (n r : ℕ) → r < n → lookup (own_map w n) r ≡ some (role_of (get_or w (roles_at + r) 0))
unfolding own_map lookup
own_lookup w zero r h = absurd (omega arith)
own_lookup w (suc n) r h = by_test (eqb n r)
    (λ e. rw (e, eqb-true n r e) refl)
    (λ e. rw e (own_lookup w n r (omega (arith, eqb-false n r e))))

own_held : (w : List ℕ) → RolesHeld w (own_map w most_roles)
unfolding canon_role
own_held w = record { mapped = λ r l. sym (ap (λ o. role_code (canon_of (Named r) o)) (own_lookup w most_roles r l) ∙ code_role (get_or w (roles_at + r) 0)) }

-- the id of what canon_role answers
pub answered_id : (w : List ℕ) (c : ℕ) (r : Role) → c < 2 * most_roles → ((m : InverseCanon) → RolesHeld w m → r ≡ canon_role m (role_of c)) → role_id r ≡ id_at w c
answered_id w c r h f =
    let m = own_map w most_roles in
    ap role_id (f m (own_held w)) ∙ mapped_id w m c (own_held w) h
