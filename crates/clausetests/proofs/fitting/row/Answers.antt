use mathlib.Core.Path.{refl, ◌∙◌}
use native.Mathlib.Omega.{arith}
use Rattle.clausetests.proofs.FittingLaws.{pair_within}
use Rattle.clausetests.proofs.fitting.row.Goals as goal

pub get_set-requires : goal.get_set-requires
get_set-requires c = let p = pair_within c.args.i c.args.j 4 c.requires.0 c.requires.1 (omega arith) in omega (arith, c.pair_at.ensures, c.requires.2, c.requires.3)

pub returns : goal.returns
returns c = c.get_set.ensures ∙ rw c.pair_at.ensures refl
