use Rattle.std.proofs.Common.{[], ◌∷◌, ◌∙◌}
use Rattle.clausetests.proofs.SearchLaws.{none_fits, last_some, found_one}
use Rattle.clausetests.proofs.search.search_one.Goals as goal

pub returns-then-m-eq0 : goal.returns-then-m-eq0
returns-then-m-eq0 c = λ n two F h e. none_fits n two 0 c.args.j F c.args.m e c.if-m-eq0.true

pub returns : goal.returns
returns c = λ n two F h e.
    found_one c.least-last.result c.args.j (0 ∷ 0 ∷ 0 ∷ 0 ∷ []) c.requires ∙ last_some n two c.args.j F c.args.m c.least-last.result e c.if-m-eq0.false (c.least-last.ensures.by_index n (F c.args.j) h e).0
