use mathlib.Core.Path.{◌≡◌}
use mathlib.Core.Bool.{Bool}
use Prim.Native.Nat.{ℕ, ◌+◌}
use Rattle.words.specs.Words.{words}
use Rattle.rules.specs.Invariants.{Each}
use Rattle.meaning.specs.Joints.{over}
use Rattle.pool.specs.Joints.{joint_of}
use Rattle.pool.specs.Layout.{members_at, run}
use Rattle.states.specs.Masks.{mask_of}
use Rattle.sets.specs.Kept.{set_at}
use Rattle.sets.specs.Places.{concepts_at}
use Rattle.extents.proofs.joint.joint_set.Given as goal

abbrev pub invariant-loop-i : goal.invariant-loop-i
invariant-loop-i l =
    (k : ℕ → ℕ → Bool) → Each (λ c. set_at (words l.scratch) (concepts_at + c) ≡ mask_of l.n (k c)) (run (words l.scratch) (members_at + l.start) l.count)
    → l.m ≡ mask_of l.n (λ x. over (joint_of l.j) (λ c. k c x) (run (words l.scratch) (members_at + l.start) l.i))
