use Rattle.std.proofs.Common.{◌≡◌, ◌+◌, ◌<◌, length, take, drop, true, sym, ap, ◌∙◌, arith, rules}
use Rattle.std.proofs.Math.Option.{some}
use Rattle.clausetests.specs.Search.{narrowed, search_by}
use Rattle.clausetests.proofs.SearchLaws.{none_fits, found_more, scan_start, scan_past, scan_on, scan_found, scan_out}
use Rattle.clausetests.proofs.search.search_two.Goals as goal
use Rattle.clausetests.proofs.search.search_two.Goals.{then-has+else-rest-eq0+in_default, else-has}

pub loop-x-init : goal.loop-x-init
loop-x-init c = let a = c.args in λ two F T u v. scan_start a.size two 1 a.j F

pub returns-in-Some : goal.returns-in-Some
returns-in-Some c =
    let a = c.args in
    let x = c.loop-x.x in
    let h = c.loop-x-test.true in
    let found = c.in-Some.found in
    let long : a.j < length found = search rules in
    λ two F T u v.
    let fit : true ≡ F a.j x = sym c.if-has.true ∙ c.has.ensures.by_index a.size (F a.j) h u in
    let rest = c.both-rest.ensures a.size (F (a.j + 1)) (two a.j (a.j + 1) x) v (c.row.ensures ∙ T a.j (a.j + 1) x (omega arith) (omega arith) h) in
    let r : some (take 1 (drop (a.j + 1) found)) ≡ search_by a.size two 1 (a.j + 1) (narrowed two a.j x F) = c.in-Some.ensures a.size two (narrowed two a.j x F) (omega arith) rest in
    ap some (found_more 1 x a.j found long) ∙ scan_found a.size two 1 a.j F x h (c.loop-x.invariant two F T u v) fit (take 1 (drop (a.j + 1) found)) r

pub returns-then-here-eq0 : goal.returns-then-here-eq0
returns-then-here-eq0 c = let a = c.args in λ two F T u v. none_fits a.size two 1 a.j F a.here u c.if-here-eq0.true

pub loop-x-preserved-then-rest-eq0 : goal.loop-x-preserved-then-rest-eq0
loop-x-preserved-then-rest-eq0 c =
    let a = c.args in
    let x = c.loop-x.x in
    let h = c.loop-x-test.true in
    λ two F T u v.
    let fit : true ≡ F a.j x = sym c.if-has.true ∙ c.has.ensures.by_index a.size (F a.j) h u in
    let rest = c.both-rest.ensures a.size (F (a.j + 1)) (two a.j (a.j + 1) x) v (c.row.ensures ∙ T a.j (a.j + 1) x (omega arith) (omega arith) h) in
    scan_on a.size two 1 a.j F x h (c.loop-x.invariant two F T u v) fit (none_fits a.size two 0 (a.j + 1) (narrowed two a.j x F) c.both-rest.result rest c.if-rest-eq0.true)

pub loop-x-preserved : goal.loop-x-preserved
loop-x-preserved c =
    let a = c.args in
    let x = c.loop-x.x in
    let h = c.loop-x-test.true in
    elim c.if-has.branch [
      | then-has+else-rest-eq0+in_default w ↦ λ two F T u v.
          let fit = sym w.if-has.true ∙ c.has.ensures.by_index a.size (F a.j) h u in
          let rest = w.both-rest.ensures a.size (F (a.j + 1)) (two a.j (a.j + 1) x) v (w.row.ensures ∙ T a.j (a.j + 1) x (omega arith) (omega arith) h) in
          scan_on a.size two 1 a.j F x h (c.loop-x.invariant two F T u v) fit (w.in_default.ensures a.size two (narrowed two a.j x F) (omega arith) rest)
      | else-has w ↦ λ two F T u v.
          scan_past a.size two 1 a.j F x h (c.loop-x.invariant two F T u v) (sym w.if-has.false ∙ c.has.ensures.by_index a.size (F a.j) h u)
    ]

pub returns : goal.returns
returns c =
    let a = c.args in
    λ two F T u v. scan_out a.size two 1 a.j F c.loop-x.x c.loop-x-test.false (c.loop-x.invariant two F T u v)
