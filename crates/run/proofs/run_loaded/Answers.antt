use native.Mathlib.Omega.{arith}
use Rattle.std.proofs.lemmas.Result.{err_from_is_err_and}
use Rattle.words.specs.Words.{words}
use Rattle.run.specs.LateLaws.{before_of}
use Rattle.run.specs.RunLaws.{ran_stopped}
use Rattle.run.proofs.run_loaded.Goals as goal

pub clausify_deck-requires : goal.clausify_deck-requires
clausify_deck-requires c = (c.requires.0, c.requires.2)

pub returns-in_err-clausify_deck-clause-did : goal.returns-in_err-clausify_deck-clause-did
returns-in_err-clausify_deck-clause-did c =
    let p = err_from_is_err_and c.from_residual.result c.from_residual.ensures.1 in
    let u = c.clausify_deck.new.lent in
    rw (p.1, p.2) (λ P rooms B. ran_stopped P.limit rooms P.known (words u.clauses.now) (words u.atoms.now) (words u.deferrals.now) c.in_err-clausify_deck.field-0.0 (c.in_err-clausify_deck.ensures.did P rooms B))

pub run_late-requires : goal.run_late-requires
run_late-requires c =
    let t = c.args.lent.now in
    let P = c.requires.0 in
    let rooms = c.requires.2.0 in
    let m = c.clausify_deck in
    let u = m.new.lent in
    let S = c.in_ok-clausify_deck.ensures.did P rooms c.requires.2.1 in
    before_of c.args.scratch.now t.counters c.args.n P rooms m.new.scratch u.counters (words u.clauses.now) (words u.atoms.now) (words u.deferrals.now) S (omega (arith, c.requires.1, m.auto.scratch))

pub returns-clause-did : goal.returns-clause-did
returns-clause-did c = λ P rooms B.
    let t = c.args.lent.now in
    let m = c.clausify_deck in
    let u = m.new.lent in
    let S = c.in_ok-clausify_deck.ensures.did P rooms B in
    c.run_late.ensures.did (before_of c.args.scratch.now t.counters c.args.n P rooms m.new.scratch u.counters (words u.clauses.now) (words u.atoms.now) (words u.deferrals.now) S (omega (arith, c.requires.1, m.auto.scratch)))
