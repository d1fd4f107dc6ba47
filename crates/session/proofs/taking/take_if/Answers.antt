use Rattle.std.proofs.Common.{ap, ◌≡◌, ◌∙◌, ◌&&◌, ℕ}
use Rattle.ir.specs.Pick.{pick}
use Rattle.ir.specs.declared.refusal.Refusal.TheVariants.{WrongSize}
use Rattle.clausify.specs.Entry.{lent}
use Rattle.session.specs.Session.{is_stored}
use Rattle.session.specs.Taking.{holds_deck}
use Rattle.session.specs.TakingLaws.{flag_then, flag_else, of_flag, taken, taken_not}
use Rattle.session.proofs.taking.take_if.Goals as goal
use Rattle.session.proofs.taking.take_if.Goals.{then-fit, else-fit}

pub returns-in-Ok-clause-fact : goal.returns-in-Ok-clause-fact
returns-in-Ok-clause-fact c =
    let a = c.args in
    let s = a.session.now in
    let t = lent a.clauses.now a.atoms.now a.deferrals.now a.scratch.now in
    let q = c.answer_if in
    let flag : c.if-fit.stored ≡ (a.fit && is_stored s)
    = elim c.if-fit.branch [
      | then-fit w ↦ flag_then w.if-fit.true (w.stored-is ∙ w.is_stored-stored.ensures)
      | else-fit w ↦ flag_else (is_stored s) w.if-fit.false w.stored-is
    ] in
    let n = c.in-Ok.numbers in
    taken s t q.new.clauses q.new.atoms q.new.deferrals a.fit n.stats n.fresh_ids n.visits (of_flag s t _ _ _ flag c.deck.ensures c.in-Ok.ensures.fact)

pub returns-in-Err-clause-fact : goal.returns-in-Err-clause-fact
returns-in-Err-clause-fact c =
    let a = c.args in
    let s = a.session.now in
    let t = lent a.clauses.now a.atoms.now a.deferrals.now a.scratch.now in
    let q = c.answer_if in
    let flag : c.if-fit.stored ≡ (a.fit && is_stored s)
    = elim c.if-fit.branch [
      | then-fit w ↦ flag_then w.if-fit.true (w.stored-is ∙ w.is_stored-stored.ensures)
      | else-fit w ↦ flag_else (is_stored s) w.if-fit.false w.stored-is
    ] in
    let e = c.in-Err.e in
    taken_not s t q.new.clauses q.new.atoms q.new.deferrals e a.fit c.refusal.result
    (c.refusal.ensures.value ∙ ap (λ (n : ℕ). pick (a.fit && holds_deck s n) e (record { refusal = WrongSize; line = 0 })) q.auto.scratch)
    (of_flag s t _ _ _ flag c.deck.ensures c.in-Err.ensures.fact)
