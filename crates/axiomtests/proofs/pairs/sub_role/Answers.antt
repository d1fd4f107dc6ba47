use Rattle.axiomtests.proofs.LineLaws.{code_small, element_small}
use Rattle.axiomtests.proofs.ArmLaws.{sub_role_in, sub_role_set}
use Rattle.axiomtests.proofs.pairs.sub_role.Goals as goal

pub row-requires : goal.row-requires
row-requires c = let P = c.requires.0 in (code_small P.line _ _ c.get_word-sub.ensures (sub_role_in P.line).0, element_small P.line _ c.requires.1, P.space)

pub row-requires-2 : goal.row-requires-2
row-requires-2 c = let P = c.requires.0 in (code_small P.line _ _ c.get_word-sup.ensures (sub_role_in P.line).1, element_small P.line _ c.requires.1, P.space)

pub returns : goal.returns
returns c =
    λ d I w L. sub_role_set L c.args.x _ _ _ _ _ c.requires.1 c.get_word-sub.ensures c.get_word-sup.ensures c.row.ensures c.row-2.ensures c.without.ensures
