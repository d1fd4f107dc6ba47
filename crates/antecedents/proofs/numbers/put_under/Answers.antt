use Rattle.antecedents.proofs.Combined.{under_none, under_long, under_found}
use Rattle.antecedents.proofs.numbers.put_under.Goals as goal

pub returns-then-a-eq0 : goal.returns-then-a-eq0
returns-then-a-eq0 c = let A = c.args in λ k. under_none k A.a.count A.a.longest c.if-a-eq0.true

pub returns-then-a-ge-LONGEST : goal.returns-then-a-ge-LONGEST
returns-then-a-ge-LONGEST c = let A = c.args in λ k. under_long k A.a.count A.a.longest c.if-a-eq0.false c.if-a-ge-LONGEST.true

pub returns : goal.returns
returns c = let A = c.args in λ k. under_found k A.a.count A.a.longest c.if-a-eq0.false c.if-a-ge-LONGEST.false
