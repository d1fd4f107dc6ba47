use Rattle.std.proofs.Common.{ap, ◌∙◌, sym, length}
use Rattle.session.specs.Session.{session_started}
use Rattle.session.specs.StartLaws.{begun_done}
use Rattle.session.specs.Told.{told_said}
use Rattle.session.specs.SaidLaws.{not_refused}
use Rattle.session.specs.TraceLaws.{begins}
use Rattle.session.proofs.start.Goals as goal

pub store-requires : goal.store-requires
store-requires c =
    let a = c.args in
    let B = begun_done (length a.session.now) a.deck.now (length a.scratch.now) (ap told_said (sym c.in-Ok.is) ∙ c.check-said.ensures) in
    (B.size, B.short)

pub returns-in-Ok-clause-session : goal.returns-in-Ok-clause-session
returns-in-Ok-clause-session c =
    let a = c.args in
    let B = begun_done (length a.session.now) a.deck.now (length a.scratch.now) (ap told_said (sym c.in-Ok.is) ∙ c.check-said.ensures) in
    c.store.ensures ∙ ap (session_started a.session.now) (sym B.is)

pub returns-in-Ok-clause-begins : goal.returns-in-Ok-clause-begins
returns-in-Ok-clause-begins c =
    let a = c.args in
    let s = a.session.now in
    let n = length a.scratch.now in
    let B = begun_done (length s) a.deck.now n (ap told_said (sym c.in-Ok.is) ∙ c.check-said.ensures) in
    λ d r q. begins s c.store.new.session a.deck.now n d (c.store.ensures ∙ ap (session_started s) (sym B.is)) r (sym q ∙ c.check-said.ensures)

pub returns-in-Err-clause-begins : goal.returns-in-Err-clause-begins
returns-in-Err-clause-begins c = λ d r q. not_refused _ _ (sym q ∙ ap told_said c.in-Err.is)
