use mathlib.Core.Path.{refl, ap, ◌∙◌}
use Prim.Native.Nat.{ℕ}
use lib.ListN.{replicate}
use Rattle.states.specs.Test.{clauses}
use Rattle.states.specs.Seen.{seen_clauses}
use Rattle.clausify.specs.Reply.{told_reply}
use Rattle.trials.specs.Tried.{told_trial}
use Rattle.trials.specs.Entry.{lent_all}
use Rattle.trials.specs.EntryLaws.{promised, tell_there}
use Rattle.trials.proofs.try_clauses.Goals as goal

pub tell_clauses-tried-requires : goal.tell_clauses-tried-requires
tell_clauses-tried-requires c =
    let a = c.args in
    let q = c.answer_if-reply in
    let t = lent_all a.clauses.now a.atoms.now a.deferrals.now a.store.now a.scratch.now in
    tell_there a.deck.now t (told_reply q.result) q.new.clauses q.new.atoms q.new.deferrals a.store.now q.new.scratch refl q.auto.scratch _ refl q.ensures.fact

pub returns : goal.returns
returns c =
    let a = c.args in
    let q = c.answer_if-reply in
    let e = c.tell_clauses-tried in
    let z = c.clear in
    let s = c.settle in
    let t = lent_all a.clauses.now a.atoms.now a.deferrals.now a.store.now a.scratch.now in
    let P = promised clauses a.deck.now a.state.now t (told_reply q.result) q.new.clauses q.new.atoms q.new.deferrals s.new.clauses s.new.atoms s.new.deferrals e.new.store (told_trial e.result)
    s.ensures.clauses_after s.ensures.atoms_after s.ensures.deferrals_after _ refl q.ensures.fact e.ensures in
    let scratch = z.ensures ∙ ap (λ (n : ℕ). replicate n 0) (e.auto.scratch ∙ q.auto.scratch) in
    record {
      reply = P.reply;
      clauses = P.clauses;
      atoms = P.atoms;
      deferrals = P.deferrals;
      store = P.stored;
      scratch = scratch;
      meaning = P.meaning;
      seen = seen_clauses a.deck.now a.state.now t;
    }
