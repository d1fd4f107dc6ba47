use mathlib.Core.Path.{subst, ap, ◌∙◌}
use lib.ListN.{length}
use Rattle.words.specs.Words.{words}
use Rattle.clausify.specs.Reply.{told_reply}
use Rattle.clausify.specs.Answer.{ten_of}
use Rattle.gorvask.specs.Replies.{NumbersFit}
use Rattle.gorvask.specs.NumberLaws.{sets_all, ten_long, numbers_ten}
use Rattle.gorvask.proofs.reply.put_numbers.Goals as goal

pub returns-in-Ok : goal.returns-in-Ok
returns-in-Ok c =
    let a = c.args in
    let q = c.put_ten in
    let long = subst (λ x. NumbersFit (length a.numbers.now) (told_reply x)) c.in-Ok.is c.requires in let both = numbers_ten (length a.numbers.now) q.new.numbers (told_reply a.reply) c.in-Ok.n.stats c.in-Ok.n.fresh_ids c.in-Ok.n.visits (ap told_reply c.in-Ok.is) (λ i. (c.slice_known-in-Ok-1.given i).fits)
    (q.auto.numbers ∙ long) (q.ensures ∙ sets_all (ten_of c.in-Ok.n.stats c.in-Ok.n.fresh_ids c.in-Ok.n.visits) (words a.numbers.now) (ten_long a.numbers.now long)) in record { numbers_after = both.0; ten_words = both.1 }
