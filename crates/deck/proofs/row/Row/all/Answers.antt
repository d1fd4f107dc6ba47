use mathlib.Core.Bool.{true, false}
use mathlib.Core.Path.{refl}
use Prim.Native.Nat.{◌-◌}
use lib.ListN.{get_or}
use borrow.Author.Tests.{tests}
use Rattle.std.proofs.Common.{rules, of_calls}
use Rattle.std.proofs.lemmas.Iterator.{YieldsList-from_range, YieldsList-from_map, cases_from_all}
use Rattle.std.proofs.lemmas.Iterator.Consumers.{YieldsList-at}
use Rattle.std.proofs.lemmas.Iterator.Adapters.{serves_from_places}
use Rattle.rules.specs.EachLaws.{each_nth}
use Rattle.deck.specs.Rows.{numbers}
use Rattle.deck.proofs.RowLaws.{row_list, each_read, Tested, all_tested}
use Rattle.deck.proofs.row.Row.all.Goals as goal

pub all-requires-clause-callable : goal.all-requires-clause-callable
all-requires-clause-callable g c =
    let r = c.args.self.now in
    let a = c.args.from in
    let n = r.line.fields - a in
    serves_from_places (YieldsList-from_map _ (λ k. get_or (numbers r) k 0) (YieldsList-at c.map.ensures.source (YieldsList-from_range a r.line.fields n refl refl)) c.map.ensures.closure (λ x y k p. search (rules, tests)))
    (λ x q p. search (rules, tests)) (λ x k l e. let h = each_nth (goal.F-pre g c.args.test) (row_list r a) k x (each_read r a (goal.F-pre g c.args.test) c.requires) l in search (rules, of_calls, h, e))

pub returns : goal.returns
returns g c =
    let r = c.args.self.now in
    let a = c.args.from in
    let n = r.line.fields - a in
    λ q t. all_tested r a q (goal.F-pre g c.args.test) c.requires c.all.result
    (cases_from_all _ _ c.all.result (Tested r a q (goal.F-pre g c.args.test) true) (Tested r a q (goal.F-pre g c.args.test) false) c.all.ensures.ran
    (YieldsList-from_map _ (λ k. get_or (numbers r) k 0) (YieldsList-at c.map.ensures.source (YieldsList-from_range a r.line.fields n refl refl)) c.map.ensures.closure (λ x y k p. search (rules, tests)))
    (λ x s k. (search (rules, tests), λ h p. t x true h p (search (rules, tests))))
    (λ x s k. λ h p. t x false h p (search (rules, tests))))
