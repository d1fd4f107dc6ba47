use Rattle.antecedents.proofs.Combined.{listed_many, listed_found}
use Rattle.antecedents.proofs.numbers.list_numbers.Goals as goal

pub returns-then-count-gt-CAP : goal.returns-then-count-gt-CAP
returns-then-count-gt-CAP c = let A = c.args in λ k. listed_many k A.a.count A.a.longest A.b.count A.b.longest c.saturating_add-count.result c.saturating_add-count.ensures c.if-count-gt-CAP.true

pub returns : goal.returns
returns c = let A = c.args in λ k. listed_found k A.a.count A.a.longest A.b.count A.b.longest c.saturating_add-count.result c.saturating_add-count.ensures c.if-count-gt-CAP.false _ c.max-longest.ensures
