use Rattle.clausify.specs.Reply.{told_reply}
use Rattle.clausify.specs.Entry.{lent}
use Rattle.clausify.specs.MeaningLaws.{meant}
use Rattle.clausify.proofs.clausify_with_stats.Goals as goal

pub returns-clause-meaning : goal.returns-clause-meaning
returns-clause-meaning c =
    let a = c.args in
    let q = c.answer-reply in
    meant a.deck.now (lent a.clauses.now a.atoms.now a.deferrals.now a.scratch.now) q.new.clauses q.new.atoms q.new.deferrals (told_reply q.result) q.ensures
