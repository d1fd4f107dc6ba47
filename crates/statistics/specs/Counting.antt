-- One clause more, and the clauses that are left.
use Rattle.std.specs.Prelude.{◌≡◌, List, ℕ, ◌+◌, ◌≤◌, length, drop}
use Rattle.rules.specs.State.{Clause}
use Rattle.rules.specs.Stats as Rules
use Rattle.rules.specs.Stats.{one, count_of, is_horn, is_disjunctive, is_bottom_headed, has_exists_head, is_refused, clause_stats}
use Rattle.tables.specs.Tabled.{Tabled}
use Rattle.statistics.specs.declared.ClauseStats.{ClauseStats}
use Rattle.statistics.specs.Counted.{stats_of}

abbrev pub counted : Clause → Rules.ClauseStats → Rules.ClauseStats
counted x s = record {
  total = s.total + 1;
  horn = s.horn + one (is_horn x);
  disjunctive = s.disjunctive + one (is_disjunctive x);
  bottom_headed = s.bottom_headed + one (is_bottom_headed x);
  with_exists_head = s.with_exists_head + one (has_exists_head x);
  deferred = s.deferred;
  decomposed = s.decomposed;
  refused = s.refused + one (is_refused x);
}

unfoldable pub counted_all : List Clause → Rules.ClauseStats → Rules.ClauseStats
counted_all l s = record {
  total = s.total + length l;
  horn = s.horn + count_of is_horn l;
  disjunctive = s.disjunctive + count_of is_disjunctive l;
  bottom_headed = s.bottom_headed + count_of is_bottom_headed l;
  with_exists_head = s.with_exists_head + count_of has_exists_head l;
  deferred = s.deferred;
  decomposed = s.decomposed;
  refused = s.refused + count_of is_refused l;
}

-- no count is above n
pub record Within (n : ℕ) (s : ClauseStats) : Type 0 where
  pub total : s.total ≤ n
  pub horn : s.horn ≤ n
  pub disjunctive : s.disjunctive ≤ n
  pub bottom : s.bottom_headed ≤ n
  pub exists : s.with_exists_head ≤ n
  pub refused : s.refused ≤ n

-- before clause i of n: those left make the rule's statistics
pub record CountedTo (c a : List ℕ) (n deferred decomposed : ℕ) (s : ClauseStats) (i : ℕ) : Type 0 where
  pub here : i ≤ n
  pub left : (l : List Clause) → Tabled c a n l → counted_all (drop i l) (stats_of s) ≡ clause_stats l deferred decomposed
