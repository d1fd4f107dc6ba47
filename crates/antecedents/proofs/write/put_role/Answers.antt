use Rattle.antecedents.proofs.Writing.{role_written}
use Rattle.antecedents.proofs.write.put_role.Goals as goal

pub returns : goal.returns
returns c = role_written _ _ _ _ _ _ _ _ _ c.role.ensures c.canon_role-role.ensures.value c.put.ensures
