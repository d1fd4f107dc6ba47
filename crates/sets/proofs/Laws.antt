-- A power of two as a shift, and a digit as a test. Assumes nothing.
use mathlib.Core.Path.{◌≡◌, refl, ap, ◌∙◌}
use mathlib.Core.Bool.{Bool, true, false}
use Prim.Native.Nat.{ℕ, ◌*◌, ◌%◌, ◌^◌, ◌<◌}
use native.Mathlib.Nat.{one-mul, mod-eq_of_lt}
use lib.Dec.{eqb}
use lib.Pow.{pow-lt}
use Rattle.rules.specs.Semantics.{one}

pub power_small : (x : ℕ) → x < 64 → 2 ^ x < 2 ^ 64
power_small x h = pow-lt h

pub shifted : (x : ℕ) → x < 64 → 1 * 2 ^ x % 2 ^ 64 ≡ 2 ^ x
shifted x h = ap (λ (k : ℕ). k % 2 ^ 64) (one-mul (2 ^ x)) ∙ mod-eq_of_lt (power_small x h)

pub digit : (b : Bool) → eqb (one b) 1 ≡ b
digit true = refl
digit false = refl
