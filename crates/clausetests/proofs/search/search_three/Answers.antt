use Rattle.std.proofs.Common.{◌≡◌, ◌+◌, ◌<◌, length, take, drop, true, sym, ap, ◌∙◌, arith, rules}
use Rattle.std.proofs.Math.Option.{some}
use Rattle.words.specs.Words.{words}
use Rattle.clausetests.specs.Fitting.{Twos}
use Rattle.clausetests.specs.Search.{narrowed, search_by}
use Rattle.clausetests.proofs.SearchLaws.{none_fits, found_more, scan_start, scan_past, scan_on, scan_found, scan_out}
use Rattle.clausetests.proofs.search.search_three.Goals as goal
use Rattle.clausetests.proofs.search.search_three.Goals.{then-has+in_default, else-has}

pub returns-then-here-eq0 : goal.returns-then-here-eq0
returns-then-here-eq0 c = let a = c.args in λ two F T u v w. none_fits a.size two 2 a.j F a.here u c.if-here-eq0.true

pub loop-x-init : goal.loop-x-init
loop-x-init c = let a = c.args in λ two F T u v w. scan_start a.size two 2 a.j F

pub returns-in-Some : goal.returns-in-Some
returns-in-Some c =
    let a = c.args in
    let x = c.loop-x.x in
    let h = c.loop-x-test.true in
    let found = c.in-Some.found in
    let long : a.j < length found = search rules in
    λ two F T u v w.
    let N = narrowed two a.j x F in
    let fit : true ≡ F a.j x = sym c.if-has.true ∙ c.has.ensures.by_index a.size (F a.j) h u in
    let fewer : Twos a.size (a.j + 1 + 2) two (words a.scratch.now) = λ i k y p q r. T i k y p (omega (arith, q)) r in
    let two_on : a.j + 2 ≡ a.j + 1 + 1 = omega arith in
    let second = c.both-second.ensures a.size (F (a.j + 1)) (two a.j (a.j + 1) x) v (c.row.ensures ∙ T a.j (a.j + 1) x (omega arith) (omega arith) h) in
    let third = rw two_on at (c.both-third.ensures a.size (F (a.j + 2)) (two a.j (a.j + 2) x) w (c.row-then-has.ensures ∙ T a.j (a.j + 2) x (omega arith) (omega arith) h)) in
    let r : some (take 2 (drop (a.j + 1) found)) ≡ search_by a.size two 2 (a.j + 1) N = c.in-Some.ensures two N fewer second third in
    ap some (found_more 2 x a.j found long) ∙ scan_found a.size two 2 a.j F x h (c.loop-x.invariant two F T u v w) fit (take 2 (drop (a.j + 1) found)) r

pub loop-x-preserved : goal.loop-x-preserved
loop-x-preserved c =
    let a = c.args in
    let x = c.loop-x.x in
    let h = c.loop-x-test.true in
    elim c.if-has.branch [
      | then-has+in_default b ↦ λ two F T u v w.
          let N = narrowed two a.j x F in
          let fit = sym b.if-has.true ∙ c.has.ensures.by_index a.size (F a.j) h u in
          let fewer : Twos a.size (a.j + 1 + 2) two (words a.scratch.now) = λ i k y p q r. T i k y p (omega (arith, q)) r in
          let two_on : a.j + 2 ≡ a.j + 1 + 1 = omega arith in
          let second = b.both-second.ensures a.size (F (a.j + 1)) (two a.j (a.j + 1) x) v (b.row.ensures ∙ T a.j (a.j + 1) x (omega arith) (omega arith) h) in
          let third = rw two_on at (b.both-third.ensures a.size (F (a.j + 2)) (two a.j (a.j + 2) x) w (b.row-then-has.ensures ∙ T a.j (a.j + 2) x (omega arith) (omega arith) h)) in
          scan_on a.size two 2 a.j F x h (c.loop-x.invariant two F T u v w) fit (b.in_default.ensures two N fewer second third)
      | else-has b ↦ λ two F T u v w.
          scan_past a.size two 2 a.j F x h (c.loop-x.invariant two F T u v w) (sym b.if-has.false ∙ c.has.ensures.by_index a.size (F a.j) h u)
    ]

pub returns : goal.returns
returns c =
    let a = c.args in
    λ two F T u v w. scan_out a.size two 2 a.j F c.loop-x.x c.loop-x-test.false (c.loop-x.invariant two F T u v w)
