use lib.ListN.{length}
use mathlib.Core.Path.{sym, ap, subst, ◌∙◌}
use Prim.Native.Nat.{ℕ}
use native.Mathlib.Omega.{arith}
use Rattle.rules.specs.DeckLaws.{read_in}
use Rattle.states.specs.State.{read_state}
use Rattle.states.specs.Test.{clauses, store_table}
use Rattle.clausify.specs.Reply.{told_reply}
use Rattle.trials.specs.Tried.{told_trial}
use Rattle.trials.specs.Judged.{Judgement, judged_of, tested_as}
use Rattle.trials.specs.Entry.{tried_of}
use Rattle.trials.specs.Stored.{Short}
use Rattle.trials.specs.Tells.{RanThere, TellThere, TellsAs}
use Rattle.trials.specs.TellLaws.{judged_short, counted_fresh, ran_few, ran_sized, ran_clauses}
use Rattle.trials.proofs.tell.tell_clauses.Goals as goal

pub judge-judged-requires : goal.judge-judged-requires
judge-judged-requires c =
    let a = c.args in
    let T : RanThere a.deck.now a.clauses.now a.atoms.now a.store.now a.scratch.now c.in-Ok.n.stats c.in-Ok.n.fresh_ids c.in-Ok.n.visits = subst (λ x. TellThere a.deck.now a.clauses.now a.atoms.now a.store.now a.scratch.now (told_reply x)) c.in-Ok.is c.requires in
    record {
      known = T.ran.known;
      read = T.ran.read;
      list = T.run.clauses;
      clauses_there = ran_clauses a.deck.now T.lengths T.run c.in-Ok.n.stats c.in-Ok.n.fresh_ids c.in-Ok.n.visits T.ran a.clauses.now a.atoms.now T.clausal T.atomic;
      few = ran_few a.deck.now T.lengths T.run c.in-Ok.n.stats c.in-Ok.n.fresh_ids c.in-Ok.n.visits T.ran;
      sized = ran_sized a.deck.now T.lengths T.run c.in-Ok.n.stats c.in-Ok.n.fresh_ids c.in-Ok.n.visits T.ran a.clauses.now a.atoms.now T.clausal T.atomic;
      room = T.room;
      space = T.space;
    }

pub report-requires : goal.report-requires
report-requires c =
    let a = c.args in
    let j = c.judge-judged in
    let T : RanThere a.deck.now a.clauses.now a.atoms.now a.store.now a.scratch.now c.in-Ok.n.stats c.in-Ok.n.fresh_ids c.in-Ok.n.visits = subst (λ x. TellThere a.deck.now a.clauses.now a.atoms.now a.store.now a.scratch.now (told_reply x)) c.in-Ok.is c.requires in
    let d = T.ran.known in
    let C = ran_clauses a.deck.now T.lengths T.run c.in-Ok.n.stats c.in-Ok.n.fresh_ids c.in-Ok.n.visits T.ran a.clauses.now a.atoms.now T.clausal T.atomic in
    record {
      run = T.run;
      counted = T.ran.counted;
      short = subst Short (sym (j.ensures d T.run.clauses T.ran.read C)) (judged_short clauses d T.run.clauses (read_state d c.in-Ok.n.fresh_ids a.state.now) (read_in a.deck.now d T.ran.read));
      room = omega (arith, j.auto.store, T.room);
      space = omega (arith, j.auto.scratch, T.space);
    }

pub returns-in-Ok : goal.returns-in-Ok
returns-in-Ok c =
    let a = c.args in
    let j = c.judge-judged in
    let q = c.report in
    subst (λ x. TellsAs clauses a.deck.now a.state.now a.clauses.now a.atoms.now (length a.store.now) (told_reply x) q.new.store (told_trial q.result)) (sym c.in-Ok.is) (λ t x R e f.
    let d = R.known in
    let C = ran_clauses a.deck.now t x c.in-Ok.n.stats c.in-Ok.n.fresh_ids c.in-Ok.n.visits R a.clauses.now a.atoms.now e f in
    let E = j.ensures d x.clauses R.read C ∙ ap (λ (i : ℕ). judged_of clauses d x.clauses (read_state d i a.state.now)) (sym (counted_fresh x c.in-Ok.n.stats c.in-Ok.n.fresh_ids c.in-Ok.n.visits R.counted)) in
    record {
      reply = q.ensures.value x R.counted ∙ ap (λ (k : Judgement). tried_of (tested_as x k)) E;
      stored = λ u h. q.ensures.store_after x u (h ∙ sym j.auto.store) R.counted ∙ ap (λ (k : Judgement). store_table u (tested_as x k)) E;
      numbered = q.ensures.numbered_as;
    })
