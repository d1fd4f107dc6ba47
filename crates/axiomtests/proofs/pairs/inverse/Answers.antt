use Rattle.axiomtests.proofs.LineLaws.{code_small, turned_small, element_small}
use Rattle.axiomtests.proofs.ArmLaws.{inverse_in, inverse_set}
use Rattle.axiomtests.proofs.pairs.inverse.Goals as goal

pub row-requires : goal.row-requires
row-requires c = let P = c.requires.0 in (code_small P.line _ _ c.get_word-a.ensures (inverse_in P.line).0, element_small P.line _ c.requires.1, P.space)

pub turned-requires : goal.turned-requires
turned-requires c = let P = c.requires.0 in code_small P.line _ _ c.get_word-b.ensures (inverse_in P.line).1

pub row-requires-2 : goal.row-requires-2
row-requires-2 c = let P = c.requires.0 in (turned_small P.line _ _ _ c.turned.ensures c.get_word-b.ensures (inverse_in P.line).1, element_small P.line _ c.requires.1, P.space)

pub returns : goal.returns
returns c =
    λ d I w L. inverse_set L c.args.x _ _ _ _ _ _ c.requires.1 c.get_word-a.ensures c.get_word-b.ensures c.turned.ensures c.row.ensures c.row-2.ensures c.differ.ensures
