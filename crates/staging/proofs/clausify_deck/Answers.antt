use Rattle.std.proofs.lemmas.Result.{err_from_is_err_and}
use Rattle.words.specs.Words.{words}
use Rattle.words.specs.Laws.{words_long}
use Rattle.ir.specs.Refusals.{refusal_number}
use Rattle.ir.specs.Lined.{lined}
use Rattle.clausifier.specs.PrepareLaws.{preparing_line}
use Rattle.staging.specs.StageLaws.{prepared_for, staged_as, staged_stops}
use Rattle.staging.proofs.clausify_deck.Goals as goal

pub returns-in_err-prepare-clause-did : goal.returns-in_err-prepare-clause-did
returns-in_err-prepare-clause-did c =
    let p = err_from_is_err_and c.from_residual.result c.from_residual.ensures.1 in
    let t = c.args.lent.now in
    let e = c.in_err-prepare.field-0.0 in
    rw (p.1, p.2) (λ P rooms B. staged_stops c.args.scratch.now t.counters c.args.n P rooms (refusal_number e.refusal) e.line (c.in_err-prepare.ensures P))

pub clausify_axioms-requires : goal.clausify_axioms-requires
clausify_axioms-requires c =
    let t = c.args.lent.now in
    let s = c.args.scratch.now in
    let n = c.args.n in
    let P = c.requires.0 in
    let p = c.prepare in
    let Q = c.in_ok-prepare.ensures P in
    let R = prepared_for s t.counters n P c.requires.1.0 p.new.scratch p.new.k Q (words t.clauses.now) (words t.atoms.now) (words t.deferrals.now) c.requires.1.1 in
    (Q.clausifying, Q.axioms, R, preparing_line s t.counters n P)

pub returns-clause-did : goal.returns-clause-did
returns-clause-did c = λ P rooms B.
    let t = c.args.lent.now in
    let p = c.prepare in
    let q = c.clausify_axioms in
    let u = q.new.lent in
    let R = q.ensures.references in
    staged_as c.args.scratch.now t.counters c.args.n P rooms p.new.scratch p.new.k (c.in_ok-prepare.ensures P) (words t.clauses.now) (words t.atoms.now) (words t.deferrals.now) q.new.scratch (words u.clauses.now) (words u.atoms.now) (words u.deferrals.now) (lined u.counters q.result)
    q.ensures.fact q.ensures.clausifying_lined B
    (record { clauses = words_long t.clauses.now u.clauses.now R.3; atoms = words_long t.atoms.now u.atoms.now R.4; deferrals = words_long t.deferrals.now u.deferrals.now R.5 })
