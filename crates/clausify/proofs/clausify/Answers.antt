use Rattle.std.proofs.Common.{ap, ◌∙◌}
use Rattle.rules.specs.Run.{Run}
use Rattle.clausify.specs.Entry.{lent}
use Rattle.clausify.specs.Answer.{count_of_reply}
use Rattle.clausify.specs.MeaningLaws.{count_of_lem}
use Rattle.clausify.proofs.clausify.Goals as goal

pub returns-clause-reply : goal.returns-clause-reply
returns-clause-reply c =
    let a = c.args in
    ap count_of_reply c.in_ok-numbers.ensures.reply ∙ count_of_lem (Run a.deck.now (lent a.clauses.now a.atoms.now a.deferrals.now a.scratch.now))
