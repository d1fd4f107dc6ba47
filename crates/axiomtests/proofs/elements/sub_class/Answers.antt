use Rattle.axiomtests.proofs.LineLaws.{concept_small}
use Rattle.axiomtests.proofs.ArmLaws.{sub_class_in, sub_class_set}
use Rattle.axiomtests.proofs.elements.sub_class.Goals as goal

pub set_of-requires : goal.set_of-requires
set_of-requires c = let P = c.requires in (concept_small P.line _ _ c.get_word-sub.ensures (sub_class_in P.line).0, P.space)

pub set_of-requires-2 : goal.set_of-requires-2
set_of-requires-2 c = let P = c.requires in (concept_small P.line _ _ c.get_word-sup.ensures (sub_class_in P.line).1, P.space)

pub returns : goal.returns
returns c =
    λ w d I L. sub_class_set L _ _ _ _ _ c.get_word-sub.ensures c.get_word-sup.ensures c.set_of.ensures c.set_of-2.ensures c.without.ensures
