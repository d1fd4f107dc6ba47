use Rattle.axiomtests.proofs.LineLaws.{few_elements, code_small}
use Rattle.axiomtests.proofs.ArmLaws.{irreflexive_in, irreflexive_set}
use Rattle.axiomtests.proofs.elements.irreflexive.Goals as goal

pub loops-requires : goal.loops-requires
loops-requires c = let P = c.requires in (code_small P.line _ _ c.get_word-code.ensures (irreflexive_in P.line), few_elements P.line, P.space)

pub returns : goal.returns
returns c = λ w d I L. irreflexive_set L _ _ c.get_word-code.ensures c.loops.ensures
