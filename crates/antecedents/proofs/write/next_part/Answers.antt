use Rattle.antecedents.proofs.Writing.{part_is}
use Rattle.antecedents.proofs.write.next_part.Goals as goal

pub returns : goal.returns
returns c =
    part_is _ _ _ _ _ _ _ _ c.member-id.ensures c.get_row-row.ensures.0 c.quot-left.ensures c.quot-digit.ensures c.rest-rest.ensures c.get_row-row.ensures.1 c.saturating_add-next.ensures
