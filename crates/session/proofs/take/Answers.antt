use Rattle.clausify.specs.Reply.{told_reply}
use Rattle.clausify.specs.Entry.{lent}
use Rattle.session.specs.TakingLaws.{taken_meant}
use Rattle.session.proofs.take.Goals as goal

pub returns-clause-meaning : goal.returns-clause-meaning
returns-clause-meaning c =
    let a = c.args in
    let q = c.take_if in
    taken_meant a.session.now (lent a.clauses.now a.atoms.now a.deferrals.now a.scratch.now) q.new.clauses q.new.atoms q.new.deferrals (told_reply q.result) q.ensures.fact
