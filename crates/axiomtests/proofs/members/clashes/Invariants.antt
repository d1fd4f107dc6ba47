use Rattle.std.proofs.Common.{◌≡◌, ℕ, Bool}
use Rattle.words.specs.Words.{words}
use Rattle.axiomtests.specs.Lists.{clashes_at, Clashing, Members}
use Rattle.axiomtests.proofs.ListLaws.{found_from}
use Rattle.axiomtests.proofs.members.clashes.Given as goal

abbrev pub invariant-loop-j : goal.invariant-loop-j
invariant-loop-j g live =
    (always : Bool) → Clashing (goal.F-post g live.clashing) always → (n : ℕ) (f : ℕ → ℕ → Bool) → Members n f (words live.scratch) live.l → live.found ≡ found_from (clashes_at always) f n (words live.scratch) live.l live.j
