use Rattle.std.proofs.Common.{rules}
use Rattle.std.proofs.lemmas.Result.{err_from_is_err_and}
use Rattle.words.specs.Words.{words}
use Rattle.normalize.specs.LinedLaws.{lined_err, lined_ok}
use Rattle.run.specs.LateLaws.{later_at}
use Rattle.run.specs.RunLaws.{ran_as}
use Rattle.run.proofs.run_late.Goals as goal

pub late_passes-requires : goal.late_passes-requires
late_passes-requires c =
    let t = c.args.lent.now in
    later_at c.args.scratch.now t.counters c.args.n c.args.first (words t.clauses.now) (words t.atoms.now) (words t.deferrals.now) c.requires c.at_line.new.self c.at_line.ensures

pub returns-in_err-decomposed-clause-did : goal.returns-in_err-decomposed-clause-did
returns-in_err-decomposed-clause-did c =
    let t = c.args.lent.now in
    let l = c.at_line in
    let m = c.late_passes in
    let u = m.new.lent in
    let p = err_from_is_err_and c.from_residual.result c.from_residual.ensures.1 in
    let d = c.in_err-decomposed.field-0.0 in
    let b = lined_err m.result c.map_err.result 0 _ (λ r d k. search rules) c.map_err.ensures.cases c.map_err.ensures.variant d c.in_err-decomposed.was in
    rw (p.1, p.2, b.1) (λ B. rw b.0 at (ran_as c.args.scratch.now t.counters c.args.n c.args.first (words t.clauses.now) (words t.atoms.now) (words t.deferrals.now) B l.new.self l.ensures (words u.clauses.now) (words u.atoms.now) (words u.deferrals.now) u.counters m.result m.ensures.did))

pub returns-clause-did : goal.returns-clause-did
returns-clause-did c = λ B.
    let t = c.args.lent.now in
    let l = c.at_line in
    let m = c.late_passes in
    let u = m.new.lent in
    let o = lined_ok _ m.result c.map_err.result _ c.map_err.ensures.cases c.map_err.ensures.variant c.in_ok-decomposed.was in
    rw o at (ran_as c.args.scratch.now t.counters c.args.n c.args.first (words t.clauses.now) (words t.atoms.now) (words t.deferrals.now) B l.new.self l.ensures (words u.clauses.now) (words u.atoms.now) (words u.deferrals.now) u.counters m.result m.ensures.did)
