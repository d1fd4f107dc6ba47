-- Roles followed through a map of inverses (option 8), over any map: following turns with the role, and one step in the followed map is
-- all of it. Assumes nothing.
use Rattle.std.specs.Prelude.{◌≡◌, refl, Bool, [], ◌∷◌, ℕ, zero, suc, length, eqb}
use Rattle.std.proofs.Common.{sym, ap, ◌∙◌, eqb-true}
use Rattle.std.proofs.Math.Bool.{true, false}
use Rattle.std.proofs.Math.Option.{Option, none, some}
use Rattle.ir.specs.Pick.{pick}
use Rattle.ir.specs.Roles.{role_id, flipped, flip_flip, flip_id}
use Rattle.ir.specs.declared.role.Role.{Role}
use Rattle.ir.specs.declared.role.Role.TheVariants.{Named, Inverse}
use Rattle.rules.specs.Base.{is_some}
use Rattle.rules.specs.Statements.{FollowedInOneStep}
use Rattle.rules.specs.Inverse.{InverseCanon, lookup, canon_of, canon_role, stays, follow_by, follow, mapped_by, followed}

turn_of : (r : Role) (o : Option Role) → canon_of (flipped r) o ≡ flipped (canon_of r o)
turn_of (Named i) none = refl
turn_of (Named i) (some q) = refl
turn_of (Inverse i) none = refl
turn_of (Inverse i) (some q) = sym (flip_flip q)

pub step_turns : (m : InverseCanon) (r : Role) → canon_role m (flipped r) ≡ flipped (canon_role m r)
unfolding canon_role
step_turns m (Named i) = turn_of (Named i) (lookup m i)
step_turns m (Inverse i) = turn_of (Inverse i) (lookup m i)

pub follow_turns : (n : ℕ) (m : InverseCanon) (r : Role) → follow_by n m (flipped r) ≡ flipped (follow_by n m r)
unfolding follow_by
follow_turns zero m r = refl
follow_turns (suc n) m r = rw (flip_id r) (go (stays m (role_id r)) (follow_turns n m (canon_role m r)))
  where
    go : (b : Bool) → follow_by n m (flipped (canon_role m r)) ≡ flipped (follow_by n m (canon_role m r)) → pick b (flipped r) (follow_by n m (canon_role m (flipped r))) ≡ flipped (pick b r (follow_by n m (canon_role m r)))
    go true ih = refl
    go false ih = ap (follow_by n m) (step_turns m r) ∙ ih

-- ---- a role without a mapping
pub step_free : (m : InverseCanon) (r : Role) → lookup m (role_id r) ≡ none → canon_role m r ≡ r
unfolding canon_role
step_free m r h = rw h refl

pub follow_free : (n : ℕ) (m : InverseCanon) (r : Role) → lookup m (role_id r) ≡ none → follow_by n m r ≡ r
unfolding follow_by
follow_free zero m r h = refl
follow_free (suc n) m r h = rw h refl

-- where none is left one step more is none
pub follow_more : (n : ℕ) (m : InverseCanon) (r : Role) → lookup m (role_id (follow_by n m r)) ≡ none → follow_by (suc n) m r ≡ follow_by n m r
unfolding follow_by
follow_more zero m r h = rw h refl
follow_more (suc n) m r h = go (stays m (role_id r)) h (follow_more n m (canon_role m r))
  where
    go : (b : Bool) → lookup m (role_id (pick b r (follow_by n m (canon_role m r)))) ≡ none
        → (lookup m (role_id (follow_by n m (canon_role m r))) ≡ none → follow_by (suc n) m (canon_role m r) ≡ follow_by n m (canon_role m r))
        → pick b r (follow_by (suc n) m (canon_role m r)) ≡ pick b r (follow_by n m (canon_role m r))
    go true h ih = refl
    go false h ih = ih h

-- ---- a map of the same keys
lookup_by : (g : ℕ → Role) (m : InverseCanon) (k : ℕ) → lookup (mapped_by g m) k ≡ pick (is_some (lookup m k)) (some (g k)) none
unfolding lookup
lookup_by g [] k = refl
lookup_by g (e ∷ m) k = go (eqb e.key k) refl (lookup_by g m k)
  where
    go : (b : Bool) → eqb e.key k ≡ b → lookup (mapped_by g m) k ≡ pick (is_some (lookup m k)) (some (g k)) none
        → pick b (some (g e.key)) (lookup (mapped_by g m) k) ≡ pick (is_some (pick b (some e.value) (lookup m k))) (some (g k)) none
    go true h ih = rw (eqb-true e.key k h) refl
    go false h ih = ih

pub step_by : (g : ℕ → Role) (m : InverseCanon) (i : ℕ) → canon_role (mapped_by g m) (Named i) ≡ pick (is_some (lookup m i)) (g i) (Named i)
unfolding canon_role
step_by g m i = rw (lookup_by g m i) (go (lookup m i))
  where
    go : (o : Option Role) → canon_of (Named i) (pick (is_some o) (some (g i)) none) ≡ pick (is_some o) (g i) (Named i)
    go none = refl
    go (some q) = refl

named_step : (m : InverseCanon) (i : ℕ) → canon_role (followed m) (Named i) ≡ follow m (Named i)
named_step m i = step_by (λ k. follow m (Named k)) m i ∙ go (lookup m i) refl
  where
    go : (o : Option Role) → lookup m i ≡ o → pick (is_some o) (follow m (Named i)) (Named i) ≡ follow m (Named i)
    go none h = sym (follow_free (length m) m (Named i) h)
    go (some q) h = refl

-- one step in the followed map is all of it
pub followed_step : FollowedInOneStep
followed_step m (Named i) = named_step m i
followed_step m (Inverse i) = step_turns (followed m) (Named i) ∙ ap flipped (named_step m i) ∙ sym (follow_turns (length m) m (Named i))
