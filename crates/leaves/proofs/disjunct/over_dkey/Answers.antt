use mathlib.Core.Path.{◌∙◌, sym, ap}
use Rattle.rules.specs.State.{is_dkey}
use Rattle.leaves.specs.Classes.{option_in}
use Rattle.leaves.proofs.disjunct.over_dkey.Goals as goal

pub returns-in-Some : goal.returns-in-Some
returns-in-Some c = let q = c.class_id_of in λ env E. c.is_dkey.ensures env E ∙ ap (is_dkey env) (ap option_in (sym c.in-Some.is) ∙ q.ensures.result_value env E)

pub returns-in-None : goal.returns-in-None
returns-in-None c = let q = c.class_id_of in λ env E. ap (is_dkey env) (ap option_in (sym c.in-None.is) ∙ q.ensures.result_value env E)
