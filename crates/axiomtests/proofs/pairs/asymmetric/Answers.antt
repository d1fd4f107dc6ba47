use Rattle.axiomtests.proofs.LineLaws.{code_small, turned_small, element_small}
use Rattle.axiomtests.proofs.ArmLaws.{asymmetric_in, asymmetric_set}
use Rattle.axiomtests.proofs.pairs.asymmetric.Goals as goal

pub row-requires : goal.row-requires
row-requires c = let P = c.requires.0 in (code_small P.line _ _ c.get_word-code.ensures (asymmetric_in P.line), element_small P.line _ c.requires.1, P.space)

pub turned-requires : goal.turned-requires
turned-requires c = let P = c.requires.0 in code_small P.line _ _ c.get_word-code.ensures (asymmetric_in P.line)

pub row-requires-2 : goal.row-requires-2
row-requires-2 c = let P = c.requires.0 in (turned_small P.line _ _ _ c.turned.ensures c.get_word-code.ensures (asymmetric_in P.line), element_small P.line _ c.requires.1, P.space)

pub returns : goal.returns
returns c =
    λ d I w L. asymmetric_set L c.args.x _ _ _ _ _ c.requires.1 c.get_word-code.ensures c.turned.ensures c.row.ensures c.row-2.ensures c.both.ensures
