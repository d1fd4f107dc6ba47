use Rattle.std.proofs.Common.{◌≡◌, suc, ◌+◌, ◌-◌, ◌<◌, length, take, drop, true, sym, ap, ◌∙◌, arith, rules}
use Rattle.std.proofs.Math.Option.{some}
use Rattle.clausetests.specs.Search.{narrowed, search_by}
use Rattle.clausetests.proofs.SearchLaws.{none_fits, found_more, scan_start, scan_past, scan_on, scan_found, scan_out}
use Rattle.clausetests.proofs.search.+search_from.Goals as goal
use Rattle.clausetests.proofs.search.+search_from.Goals.{then-has+in_default, else-has}

pub returns-then-here-eq0 : goal.returns-then-here-eq0
returns-then-here-eq0 t c =
    let a = c.args in
    let more : a.end - a.j ≡ suc (a.end - suc a.j) = omega arith in
    λ two F T S. rw more (none_fits a.size two (a.end - suc a.j) a.j F _ (S a.j (omega arith) c.requires.0) c.if-here-eq0.true)

pub loop-x-init : goal.loop-x-init
loop-x-init t c = let a = c.args in λ two F T S. scan_start a.size two (a.end - suc a.j) a.j F

pub returns-in-Some : goal.returns-in-Some
returns-in-Some t c =
    let a = c.args in
    let x = c.loop-x.x in
    let h = c.loop-x-test.true in
    let k = a.end - suc a.j in
    let found = c.in-Some.found in
    let more : a.end - a.j ≡ suc k = omega arith in
    let less : a.end - (a.j + 1) ≡ k = omega arith in
    let long : a.j < length found = search rules in
    λ two F T S.
    let N = narrowed two a.j x F in
    let fit : true ≡ F a.j x = sym c.if-has.true ∙ c.has.ensures.by_index a.size (F a.j) h (S a.j (omega arith) c.requires.0) in
    let rest = c.narrowed-rest.ensures a.size two F h T (λ i p q. S i (omega arith) q) in
    let r : some (take k (drop (a.j + 1) found)) ≡ search_by a.size two k (a.j + 1) N = rw less at (c.in-Some.ensures two N T rest) in
    rw more (ap some (found_more k x a.j found long) ∙ scan_found a.size two k a.j F x h (c.loop-x.invariant two F T S) fit (take k (drop (a.j + 1) found)) r)

pub loop-x-preserved : goal.loop-x-preserved
loop-x-preserved t c =
    let a = c.args in
    let x = c.loop-x.x in
    let h = c.loop-x-test.true in
    let k = a.end - suc a.j in
    let less : a.end - (a.j + 1) ≡ k = omega arith in
    elim c.if-has.branch [
      | then-has+in_default w ↦ λ two F T S.
          let N = narrowed two a.j x F in
          let fit = sym w.if-has.true ∙ c.has.ensures.by_index a.size (F a.j) h (S a.j (omega arith) c.requires.0) in
          let rest = w.narrowed-rest.ensures a.size two F h T (λ i p q. S i (omega arith) q) in
          scan_on a.size two k a.j F x h (c.loop-x.invariant two F T S) fit (rw less at (w.in_default.ensures two N T rest))
      | else-has w ↦ λ two F T S.
          scan_past a.size two k a.j F x h (c.loop-x.invariant two F T S) (sym w.if-has.false ∙ c.has.ensures.by_index a.size (F a.j) h (S a.j (omega arith) c.requires.0))
    ]

pub returns : goal.returns
returns t c =
    let a = c.args in
    let more : a.end - a.j ≡ suc (a.end - suc a.j) = omega arith in
    λ two F T S. rw more (scan_out a.size two (a.end - suc a.j) a.j F c.loop-x.x c.loop-x-test.false (c.loop-x.invariant two F T S))
