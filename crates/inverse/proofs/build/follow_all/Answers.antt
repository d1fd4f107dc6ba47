use native.Mathlib.Omega.{arith}
use mathlib.Core.Path.{subst}
use Prim.Native.Nat.{ℕ}
use Rattle.inverse.specs.Following.{Halfway}
use Rattle.inverse.specs.FollowingLaws.{halfway_last}
use Rattle.inverse.proofs.build.follow_all.Goals as goal

pub returns-clause-held : goal.returns-clause-held
returns-clause-held c = λ l H.
    let v = c.loop-i in
    halfway_last l v.scratch (subst (λ (i : ℕ). Halfway l v.scratch i) (omega (arith, c.loop-i-test.false)) (v.invariant.1 l H))
