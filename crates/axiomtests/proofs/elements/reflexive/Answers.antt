use Rattle.axiomtests.proofs.LineLaws.{few_elements, code_small}
use Rattle.axiomtests.proofs.ArmLaws.{reflexive_in, reflexive_set}
use Rattle.axiomtests.proofs.elements.reflexive.Goals as goal

pub loops-requires : goal.loops-requires
loops-requires c = let P = c.requires in (code_small P.line _ _ c.get_word-code.ensures (reflexive_in P.line), few_elements P.line, P.space)

pub returns : goal.returns
returns c = λ w d I L. reflexive_set L _ _ _ _ c.get_word-code.ensures c.whole.ensures c.loops.ensures c.without.ensures
