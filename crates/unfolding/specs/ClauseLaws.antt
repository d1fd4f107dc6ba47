-- A clause of the tables within the bounds, and the parts that its body and its head are. Assumes nothing.
use Rattle.std.specs.Prelude.{List, ℕ, ◌*◌, ◌<◌, ◌≤◌, length, get_or}
use Rattle.std.proofs.Common.{arith}
use Rattle.ir.specs.declared.counters.Counters.{Counters}
use Rattle.rules.specs.State.{Clause}
use Rattle.rules.specs.Invariants.{ClauseIn}
use Rattle.rules.specs.EachLaws.{each_nth}
use Rattle.tables.specs.Tabled.{Run, no_clause, ClauseAt, ClauseThere}
use Rattle.tables.specs.ClauseLaws.{clause_at}
use Rattle.contraction.specs.InHands.{PlainRun}
use Rattle.contraction.specs.Passes.{Standing}
use Rattle.contraction.specs.PlainLaws.{plain_body, plain_head}

module _ (k : Counters) (c a : List ℕ) (S : Standing k c a) (i : ℕ) (h : i < k.clauses) where
  abbrev pub standing_at : Clause
  standing_at = get_or S.list i no_clause

  pub standing_in : ClauseIn S.bounds S.fresh S.vars standing_at
  standing_in = each_nth (ClauseIn S.bounds S.fresh S.vars) S.list i no_clause S.inside (omega (arith, S.tabled.count))

  pub standing_placed : ClauseAt c a i standing_at
  standing_placed = clause_at c a k.clauses S.list S.tabled i h

  pub standing_there : ClauseThere c a i
  standing_there = record { clause = standing_at; is = standing_placed }

  pub standing_body : (s : List ℕ) → Run s standing_at.body → PlainRun s × (length s ≤ 24 * 256)
  standing_body s R = (record { list = standing_at.body; run = R; plain = plain_body S.bounds S.fresh S.vars S.roles S.classes standing_at standing_in }, omega (arith, R.long, standing_in.body_short))

  pub standing_head : (s : List ℕ) → Run s standing_at.head → PlainRun s × (length s ≤ 24 * 256)
  standing_head s R = (record { list = standing_at.head; run = R; plain = plain_head S.bounds S.fresh S.vars S.roles S.classes standing_at standing_in }, omega (arith, R.long, standing_in.head_short))
