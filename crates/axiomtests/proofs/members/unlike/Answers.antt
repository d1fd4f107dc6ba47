use mathlib.Core.Path.{◌∙◌}
use Rattle.words.specs.Words.{words}
use Rattle.axiomtests.specs.Lists.{numbers_of}
use Rattle.axiomtests.proofs.ListLaws.{some_at, every_at, unlike_mask}
use Rattle.axiomtests.proofs.members.unlike.Goals as goal

pub returns : goal.returns
returns c =
    let v = words c.args.scratch.now in
    let k = numbers_of v c.args.l in
    λ f M. c.without.ensures c.args.size (some_at f k) (every_at f k) (c.some.ensures c.args.size f M) (c.every.ensures f M) ∙ unlike_mask c.args.size f k
