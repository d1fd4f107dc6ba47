use Rattle.std.proofs.Common.{◌≡◌, ℕ, ◌+◌, ◌<◌}
use Rattle.words.specs.Words.{words}
use Rattle.axiomtests.specs.Lists.{member_set}
use Rattle.axiomtests.proofs.members.folded.Given as goal

abbrev pub invariant-loop-j : goal.invariant-loop-j
invariant-loop-j g l =
    (h : ℕ → ℕ) → l.end ≡ h l.l.count → ((j found r : ℕ) → j < l.l.count → found ≡ h (j + 1) → goal.F-post g l.join (member_set (words l.scratch) l.l j) found r → r ≡ h j) → l.found ≡ h l.j
