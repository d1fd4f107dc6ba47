use Rattle.antecedents.proofs.numbers.join_numbers.Goals as goal

pub returns-in-And : goal.returns-in-And
returns-in-And c = λ k. rw c.in-And.is (c.cross_numbers.ensures k)

pub returns-in-Or : goal.returns-in-Or
returns-in-Or c = λ k. rw c.in-Or.is (c.list_numbers.ensures k)
