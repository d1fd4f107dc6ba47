use Rattle.std.proofs.Common.{◌≡◌, ℕ, ◌+◌, ◌*◌, ◌-◌, ◌<◌, length, drop}
use Rattle.session.specs.RemovalLaws.{to_feed}
use Rattle.session.proofs.removal.behind.Given as goal

-- behind whole fields, and not behind the line's end
abbrev pub invariant-loop-end : goal.invariant-loop-end
invariant-loop-end l = (j : ℕ) × (l.end ≡ l.at + 11 * j) × (11 * j < to_feed (drop l.at l.text))

abbrev pub decreases-loop-end : goal.decreases-loop-end
decreases-loop-end l = length l.text - l.end
