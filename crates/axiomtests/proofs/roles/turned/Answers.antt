use mathlib.Core.Path.{refl}
use Rattle.axiomtests.proofs.RoleLaws.{id_small}
use Rattle.axiomtests.proofs.roles.turned.Goals as goal

pub code-requires : goal.code-requires
code-requires c = rw (c.flip.ensures, c.of_code-r.ensures) (id_small c.args.code c.requires)

pub returns : goal.returns
returns c = rw (c.code.ensures, c.flip.ensures, c.of_code-r.ensures) refl
