use mathlib.Core.List.{[], ◌∷◌}
use Rattle.std.proofs.Common.{rules}
use Rattle.rules.specs.Base.{contains}
use Rattle.branches.specs.EdgeLaws.{root_test}
use Rattle.branches.proofs.edges.mentions_root.Goals as goal

pub returns : goal.returns
returns c = λ a W. c.any_var.ensures (contains (c.args.root ∷ [])) a (λ x b P. search (rules, root_test)) W
