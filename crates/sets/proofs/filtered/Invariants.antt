use Rattle.std.proofs.Common.{◌≡◌, ℕ, Bool, ◌<◌}
use Rattle.states.specs.Masks.{mask_of}
use Rattle.sets.proofs.filtered.Given as goal

abbrev pub invariant-loop-x : goal.invariant-loop-x
invariant-loop-x g l = (f : ℕ → Bool) → ((x : ℕ) (b : Bool) → x < l.n → goal.F-post g l.test x b → b ≡ f x) → l.m ≡ mask_of l.x f
