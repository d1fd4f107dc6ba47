use Rattle.reflexive.specs.FlagLaws.{edge_out, edge_in}
use Rattle.reflexive.proofs.ids.along.Goals as goal

pub returns-then-get_word-eq0 : goal.returns-then-get_word-eq0
returns-then-get_word-eq0 c = edge_out _ c.args.a c.args.b _ _ c.requires.1 c.get_word.ensures c.if-get_word-eq0.true c.requires.0.sized

pub returns : goal.returns
returns c =
    edge_in _ c.args.a c.args.b _ _ c.requires.1 c.get_word.ensures c.if-get_word-eq0.false _ _ c.insert.ensures
