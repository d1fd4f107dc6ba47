use mathlib.Core.Path.{sym, ap, ◌∙◌}
use Prim.Native.Nat.{ℕ}
use lib.ListN.{replicate}
use Rattle.rules.specs.Run.{sizes_ok}
use Rattle.clausify.specs.Reply.{told_reply}
use Rattle.clausify.specs.Entry.{lent}
use Rattle.clausify.specs.AnswerLaws.{same_lent, answered_lent, answered_unsized}
use Rattle.clausify.proofs.answer.answer.Goals as goal

pub settled-requires : goal.settled-requires
settled-requires c =
    let a = c.args in
    let b = c.blank in
    let lengths = same_lent a.clauses.now a.atoms.now a.deferrals.now a.scratch.now b.new.clauses b.new.atoms b.new.deferrals b.auto.clauses b.auto.atoms b.auto.deferrals in
    let e = b.ensures in (
      ap sizes_ok lengths ∙ sym c.sizes_ok-fit.ensures ∙ c.if-fit.true,
      record {
        clauses = e.clauses_after ∙ ap (λ (n : ℕ). replicate n 0) (sym b.auto.clauses);
        atoms = e.atoms_after ∙ ap (λ (n : ℕ). replicate n 0) (sym b.auto.atoms);
        deferrals = e.deferrals_after ∙ ap (λ (n : ℕ). replicate n 0) (sym b.auto.deferrals);
      },
    )

pub returns-then-fit : goal.returns-then-fit
returns-then-fit c =
    let a = c.args in
    let t = lent a.clauses.now a.atoms.now a.deferrals.now a.scratch.now in
    let b = c.blank in
    let lengths = same_lent a.clauses.now a.atoms.now a.deferrals.now a.scratch.now b.new.clauses b.new.atoms b.new.deferrals b.auto.clauses b.auto.atoms b.auto.deferrals in
    let q = c.settled in
    answered_lent a.deck.now t (lent b.new.clauses b.new.atoms b.new.deferrals a.scratch.now) (told_reply q.result) q.new.clauses q.new.atoms q.new.deferrals lengths q.ensures

pub returns-else-fit : goal.returns-else-fit
returns-else-fit c =
    let a = c.args in
    let t = lent a.clauses.now a.atoms.now a.deferrals.now a.scratch.now in
    let b = c.blank in
    let e = b.ensures in
    rw c.from.ensures (answered_unsized a.deck.now t b.new.clauses b.new.atoms b.new.deferrals (sym c.if-fit.false ∙ c.sizes_ok-fit.ensures) e.clauses_after e.atoms_after e.deferrals_after)
