use Rattle.antecedents.proofs.Combined.{crossed_none, crossed_long, crossed_many, crossed_found}
use Rattle.antecedents.proofs.numbers.cross_numbers.Goals as goal

pub returns-then-count-eq0 : goal.returns-then-count-eq0
returns-then-count-eq0 c = let A = c.args in λ k. crossed_none k A.a.count A.a.longest A.b.count A.b.longest c.saturating_mul-count.result c.saturating_mul-count.ensures c.if-count-eq0.true

pub returns-then-longest-gt-LONGEST : goal.returns-then-longest-gt-LONGEST
returns-then-longest-gt-LONGEST c = let A = c.args in λ k. crossed_long k A.a.count A.a.longest A.b.count A.b.longest c.saturating_mul-count.result c.saturating_mul-count.ensures _ c.saturating_add-longest.ensures c.if-count-eq0.false c.if-longest-gt-LONGEST.true

pub returns-then-count-gt-CAP : goal.returns-then-count-gt-CAP
returns-then-count-gt-CAP c = let A = c.args in λ k. crossed_many k A.a.count A.a.longest A.b.count A.b.longest c.saturating_mul-count.result c.saturating_mul-count.ensures _ c.saturating_add-longest.ensures c.if-count-eq0.false c.if-longest-gt-LONGEST.false c.if-count-gt-CAP.true

pub returns : goal.returns
returns c = let A = c.args in λ k. crossed_found k A.a.count A.a.longest A.b.count A.b.longest c.saturating_mul-count.result c.saturating_mul-count.ensures _ c.saturating_add-longest.ensures c.if-count-eq0.false c.if-longest-gt-LONGEST.false c.if-count-gt-CAP.false
