use Rattle.axioms.proofs.roles.canon.Goals as goal

pub returns-clause-value : goal.returns-clause-value
returns-clause-value c = λ env k E. c.canon_role.ensures.value env.inverse_canon E.roles
