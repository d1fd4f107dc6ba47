use Rattle.disjointness.specs.SecondLaws.{gave_up, passed_over}
use Rattle.disjointness.proofs.pairs.give_up.Goals as goal

pub returns-then-deferred : goal.returns-then-deferred
returns-then-deferred c = let p = c.defer.ensures in
    gave_up c.args.k.now c.args.deferred _ _ _ c.if-deferred.true p.deferrals_after p.good_answer p.kept_answer

pub returns : goal.returns
returns c = passed_over c.args.k.now c.args.deferred _ c.if-deferred.false
