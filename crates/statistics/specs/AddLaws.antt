-- What one clause adds, by the bytes s of its body and t of its head. Assumes nothing.
use Rattle.std.specs.Prelude.{Bool, ◌≡◌, refl, List, ℕ, ◌+◌, ◌/◌, length, eqb, leb, ltb}
use Rattle.std.proofs.Common.{ap, ◌∙◌, arith}
use Rattle.ir.specs.declared.atom.Atom.{Atom}
use Rattle.rules.specs.Base.{any}
use Rattle.rules.specs.State.{Clause}
use Rattle.rules.specs.Branches.{body_var_count_from, max_body_vars}
use Rattle.rules.specs.Stats.{one, is_exists}
use Rattle.tables.specs.Tabled.{Run}
use Rattle.branches.specs.WideLaws.{count_root}
use Rattle.statistics.specs.declared.ClauseStats.{ClauseStats}
use Rattle.statistics.specs.Counted.{stats_of}
use Rattle.statistics.specs.Counting.{counted}

module _ (s t : List ℕ) (nh : ℕ) (eh : nh ≡ length t / 24) (exists wide : Bool)
    (hs : (l : List Atom) → Run t l → exists ≡ any is_exists l)
    (bs : (l : List Atom) → Run s l → wide ≡ ltb max_body_vars (body_var_count_from l 0)) where
  pub one_more_lem : (z : ClauseStats) (h d b e r : ℕ) → h ≡ one (leb nh 1) → d ≡ one (ltb 1 nh) → b ≡ one (eqb nh 0) → e ≡ one exists → r ≡ one wide
      → (x : Clause) → Run s x.body → Run t x.head
      → stats_of (record {
        total = z.total + 1;
        horn = z.horn + h;
        disjunctive = z.disjunctive + d;
        bottom_headed = z.bottom_headed + b;
        with_exists_head = z.with_exists_head + e;
        deferred = z.deferred;
        decomposed = z.decomposed;
        refused = z.refused + r;
      }) ≡ counted x (stats_of z)
  one_more_lem z h d b e r eqh eqd eqb eqe eqr x B H =
      let n : nh ≡ length x.head = omega (arith, H.long) in
      let w = bs x.body B ∙ ap (ltb max_body_vars) (count_root x.body) in
      rw (eqh, eqd, eqb, eqe, eqr, n, hs x.head H, w) refl
