use mathlib.Core.Path.{◌≡◌, ap, ◌∙◌}
use lib.ListN.{length}
use Rattle.clausify.specs.Reply.{told_reply}
use Rattle.clausify.specs.Entry.{lent}
use Rattle.gorvask.specs.Entry.{code_of}
use Rattle.gorvask.specs.Replies.{code_of_reply}
use Rattle.gorvask.specs.MeaningLaws.{code_of_lem}
use Rattle.gorvask.specs.Sessions.{take_with_numbers, meant_taking}
use Rattle.gorvask.proofs.sessions.gorvask_session_take.Goals as goal

pub returns-clause-meaning : goal.returns-clause-meaning
returns-clause-meaning c =
    let a = c.args in
    let t = lent a.clauses.now a.atoms.now a.deferrals.now a.scratch.now in
    let n = length a.numbers.now in
    let o = take_with_numbers n a.session.now t in
    let q = c.take_if-answer in
    let A = q.ensures.fact in
    let p = c.put_numbers in
    let s = c.code in
    let reply : s.result ≡ code_of o = s.ensures ∙ ap code_of_reply A.reply ∙ code_of_lem o in
    meant_taking a.session.now t q.new.clauses q.new.atoms q.new.deferrals (told_reply q.result) p.new.numbers p.ensures.ten_words n s.result reply A
