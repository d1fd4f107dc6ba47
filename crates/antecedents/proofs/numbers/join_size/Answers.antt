use Rattle.antecedents.proofs.Combined.{sized}
use Rattle.antecedents.proofs.numbers.join_size.Goals as goal

pub returns-in-And : goal.returns-in-And
returns-in-And c = rw c.in-And.is (sized _ _ c.saturating_mul.ensures _ c.min.ensures)

pub returns-in-Or : goal.returns-in-Or
returns-in-Or c = rw c.in-Or.is (sized _ _ c.saturating_add.ensures _ c.min-in-Or.ensures)
