use mathlib.Core.Path.{refl, ◌∙◌}
use native.Mathlib.Omega.{arith}
use borrow.Author.Tests.{tests, ne_eqb}
use Rattle.std.proofs.Common.{rules}
use Rattle.std.proofs.lemmas.Iterator.{YieldsList-from_range, cases_from_all}
use Rattle.deck.proofs.RowLaws.{Agree, Differ, same_length, same_all}
use Rattle.deck.proofs.row.Row.same_numbers.Goals as goal

pub returns-then-self-other : goal.returns-then-self-other
returns-then-self-other c =
    let r = c.args.self.now in
    let o = c.args.other.now in
    same_all r o c.if-self-other.true c.all.result
    (cases_from_all _ _ c.all.result (Agree r o) (Differ r o) c.all.ensures.ran (YieldsList-from_range 0 r.line.fields r.line.fields refl (omega arith)) (λ x q k. search (rules, tests)) (λ x q k. search (rules, tests)))

pub returns-else-self-other : goal.returns-else-self-other
returns-else-self-other c = ne_eqb _ _ c.if-self-other.false ∙ same_length c.args.self.now c.args.other.now c.if-self-other.false
