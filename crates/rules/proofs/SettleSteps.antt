-- Option 4: `settle` takes the limits that wait one after another, and its bound is no part of what it does: each that is settled
-- begins a visit, so any bound above the visits that may begin is enough. Assumes nothing.
use Rattle.std.specs.Prelude.{◌≡◌}
use Rattle.std.proofs.Math.Path.{refl, ap}
use Rattle.std.proofs.Common.{◌∙◌, arith}
use mathlib.Core.List.{List, [], ◌∷◌}
use Prim.Native.Nat.{ℕ, zero, suc, ◌+◌, ◌≤◌, ◌<◌}
use Rattle.rules.specs.Base.{then}
use Rattle.rules.specs.State.{Limit, Env, leave_limits}
use Rattle.rules.specs.Axioms.{Clausifier, other_half, settle_next, settle_by, settle}
use Rattle.rules.specs.Invariants.{Bounds}
use Rattle.rules.specs.Post.{then_same}
use Rattle.rules.specs.Handed.{RolesKept, Settling}
use Rattle.rules.proofs.SettleLaws.{waits_for, half_settles}

module _ (B : Bounds) (env : Env) (roles : RolesKept B env) where
  -- every bound above the visits that may begin
  bound_free : (f g : ℕ) (z : Clausifier) → Settling B env z → z.out.visits ≤ z.out.limit → z.out.limit < f + z.out.visits → z.out.limit < g + z.out.visits → settle_by env f z ≡ settle_by env g z
  unfolding settle_by leave_limits
  bound_free zero g z S v h k = absurd (omega arith)
  bound_free (suc f) zero z S v h k = absurd (omega arith)
  bound_free (suc f) (suc g) z S v h k = go (λ y T u i j. bound_free f g y T u i j) z.out.limits refl
    where
      go : ((y : Clausifier) → Settling B env y → y.out.visits ≤ y.out.limit → y.out.limit < f + y.out.visits → y.out.limit < g + y.out.visits → settle_by env f y ≡ settle_by env g y)
          → (l : List Limit) → z.out.limits ≡ l → settle_next env (λ y. settle_by env f y) l z ≡ settle_next env (λ y. settle_by env g y) l z
      go rest [] e = refl
      go rest (w ∷ l) e = then_same (half_settles B env roles w l z S e) (λ _ y R.
          let X = R.0 in
          rest y R.1 (X.emitted.within v) (omega (arith, X.begins.0, X.emitted.limit)) (omega (arith, X.begins.0, X.emitted.limit)))

  -- the first, and then the others with those that it made
  pub settle_next_lem : (w : Limit) (l : List Limit) (z : Clausifier) → Settling B env z → z.out.limits ≡ w ∷ l → settle env z ≡ then (other_half env w (waits_for l z)) (λ _ y. settle env y)
  unfolding settle_by leave_limits
  settle_next_lem w l z S e =
      let next : settle env z ≡ settle_next env (λ y. settle_by env z.out.limit y) (w ∷ l) z = ap (λ k. settle_next env (λ y. settle_by env z.out.limit y) k z) e in
      next ∙ then_same (half_settles B env roles w l z S e) (λ _ y R.
      let X = R.0 in
      bound_free z.out.limit (suc y.out.limit) y R.1 (X.emitted.within (omega (arith, X.begins.1))) (omega (arith, X.begins.0, X.emitted.limit)) (omega arith))
