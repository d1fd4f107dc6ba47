use mathlib.Core.Path.{sym, subst, refl}
use native.Mathlib.Omega.{arith}
use Rattle.std.proofs.lemmas.Result.{err_from_is_err_and}
use Rattle.words.specs.Words.{words}
use Rattle.ir.specs.Refusals.{refusal_number}
use Rattle.rules.specs.Deck.{Told, read_deck}
use Rattle.rules.specs.Run.{run_read}
use Rattle.ontology.specs.Loads.{Accepted, Refused}
use Rattle.normalize.specs.Loaded.{as_fine, as_refused}
use Rattle.staging.specs.StageLaws.{fine_preparing}
use Rattle.run.specs.Ran.{RanAs}
use Rattle.run.specs.RunLaws.{ran_unread}
use Rattle.run.proofs.run.Goals as goal

pub returns-in_err-counters : goal.returns-in_err-counters
returns-in_err-counters c =
    let p = err_from_is_err_and c.from_residual.result c.from_residual.ensures.1 in
    let a = c.args in
    let e = c.in_err-counters.field-0.0 in
    let h = as_refused a.limit (read_deck a.deck.now) (words c.load.new.scratch) (Refused (refusal_number e.refusal) e.line) c.in_err-counters.ensures (refusal_number e.refusal) e.line refl in
    rw (p.1, p.2) (λ rooms B. ran_unread a.limit rooms (read_deck a.deck.now) (words a.clauses.now) (words a.atoms.now) (words a.deferrals.now) e h)

pub run_loaded-requires : goal.run_loaded-requires
run_loaded-requires c =
    let a = c.args in
    let deck = a.deck.now in
    let l = c.load in
    let s' = l.new.scratch in
    let k = c.in_ok-counters.counters in
    let n = c.in_ok-counters.n in
    let F = as_fine a.limit (read_deck deck) (words s') (Accepted k n) c.in_ok-counters.ensures k n refl in
    (fine_preparing a.limit deck s' k n c.requires.0 F (omega (arith, c.requires.1, l.auto.scratch)), omega (arith, c.requires.1, l.auto.scratch), c.requires.2)

pub returns : goal.returns
returns c = λ rooms B.
    let a = c.args in
    let deck = a.deck.now in
    let l = c.load in
    let q = c.run_loaded in
    let u = q.new.lent in
    let s' = l.new.scratch in
    let k = c.in_ok-counters.counters in
    let n = c.in_ok-counters.n in
    let F = as_fine a.limit (read_deck deck) (words s') (Accepted k n) c.in_ok-counters.ensures k n refl in
    let P = fine_preparing a.limit deck s' k n c.requires.0 F (omega (arith, c.requires.1, l.auto.scratch)) in
    let R = q.ensures.references in
    rw (c.clauses-1.given.1.1 (sym R.0), c.atoms-1.given.1.1 (sym R.1), c.deferrals-1.given.1.1 (sym R.2)) (subst (λ (t : Told). RanAs rooms (run_read a.limit rooms t) (words u.clauses.now) (words u.atoms.now) (words u.deferrals.now) q.result) (sym F.told) (q.ensures.did P rooms B))
