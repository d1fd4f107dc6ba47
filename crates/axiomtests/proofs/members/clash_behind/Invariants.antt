use Rattle.std.proofs.Common.{◌≡◌, ℕ, Bool, ◌+◌, ◌≤◌}
use Rattle.words.specs.Words.{words}
use Rattle.axiomtests.specs.Lists.{Clashing, Members}
use Rattle.axiomtests.proofs.ListLaws.{found_from, clash_by}
use Rattle.axiomtests.proofs.members.clash_behind.Given as goal

abbrev pub invariant-loop-k : goal.invariant-loop-k
invariant-loop-k g live =
    (live.j + 1 ≤ live.k)
    × ((always : Bool) → Clashing (goal.F-post g live.clashing) always → (n : ℕ) (f : ℕ → ℕ → Bool) → Members n f (words live.scratch) live.l → live.found ≡ found_from (clash_by always live.a) f n (words live.scratch) live.l live.k)
