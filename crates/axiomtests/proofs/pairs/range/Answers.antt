use Rattle.axiomtests.proofs.LineLaws.{concept_small, code_small, element_small}
use Rattle.axiomtests.proofs.ArmLaws.{range_in, range_set}
use Rattle.axiomtests.proofs.pairs.range.Goals as goal

pub row-requires : goal.row-requires
row-requires c = let P = c.requires.0 in (code_small P.line _ _ c.get_word-code.ensures (range_in P.line).0, element_small P.line _ c.requires.1, P.space)

pub set_of-requires : goal.set_of-requires
set_of-requires c = let P = c.requires.0 in (concept_small P.line _ _ c.get_word-c.ensures (range_in P.line).1, P.space)

pub returns : goal.returns
returns c =
    λ d I w L. range_set L c.args.x _ _ _ _ _ c.requires.1 c.get_word-code.ensures c.get_word-c.ensures c.row.ensures c.set_of.ensures c.without.ensures
