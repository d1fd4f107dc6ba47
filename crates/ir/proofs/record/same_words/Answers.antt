use mathlib.Core.Path.{refl}
use native.Mathlib.Omega.{arith}
use borrow.Author.Tests.{tests}
use Rattle.std.proofs.Common.{rules}
use Rattle.std.proofs.lemmas.Iterator.{YieldsList-from_range, cases_from_all}
use Rattle.words.specs.Words.{words}
use Rattle.words.specs.Laws.{length_words}
use Rattle.ir.specs.SameLaws.{Agree, Differ, same_by_places}
use Rattle.ir.proofs.record.same_words.Goals as goal

pub returns : goal.returns
returns c =
    let a = c.args in
    let v = words a.s.now in
    let w = words a.t.now in
    same_by_places v w a.i a.j a.n (omega (arith, length_words a.s.now, c.requires.0)) (omega (arith, length_words a.t.now, c.requires.1)) c.all.result
    (cases_from_all _ _ c.all.result (Agree v w a.i a.j) (Differ v w a.i a.j) c.all.ensures.ran (YieldsList-from_range 0 a.n a.n refl (omega arith)) (λ x q k. search (rules, tests)) (λ x q k. search (rules, tests)))
