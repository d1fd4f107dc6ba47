use Rattle.words.specs.Words.{words}
use Rattle.clausify.specs.TableLaws.{left_tabled}
use Rattle.clausify.specs.AnswerLaws.{reply_left}
use Rattle.clausify.proofs.answer.accepted.Goals as goal

pub clause_stats-stats-requires : goal.clause_stats-stats-requires
clause_stats-stats-requires c =
    let a = c.args in
    let P = c.requires.0 in
    (record { list = P.run.clauses; tabled = left_tabled P.rooms P.run a.r.counters a.r.first a.r.decomposed (words a.clauses.now) (words a.atoms.now) P.deferrals P.left }, c.requires.1)

pub returns : goal.returns
returns c =
    let a = c.args in
    let s = c.clause_stats-stats in
    λ rooms x d L.
    reply_left rooms x a.r.counters a.r.first a.r.decomposed (words a.clauses.now) (words a.atoms.now) d s.result L
    (s.ensures x.clauses (left_tabled rooms x a.r.counters a.r.first a.r.decomposed (words a.clauses.now) (words a.atoms.now) d L))
