use mathlib.Core.Path.{sym, subst}
use native.Mathlib.Omega.{arith}
use Rattle.rules.specs.DeckLaws.{read_in}
use Rattle.states.specs.State.{read_state}
use Rattle.states.specs.Test.{axioms}
use Rattle.clausify.specs.Reply.{told_reply}
use Rattle.trials.specs.Stored.{Short}
use Rattle.trials.specs.Tells.{RanThere, TellThere}
use Rattle.trials.specs.TellLaws.{judged_short, ran_few}
use Rattle.trials.proofs.tell.tell_axioms.Goals as goal

pub judge-judged-requires : goal.judge-judged-requires
judge-judged-requires c =
    let a = c.args in
    let T : RanThere a.deck.now c.requires.0 c.requires.1 a.store.now a.scratch.now c.in-Ok.n.stats c.in-Ok.n.fresh_ids c.in-Ok.n.visits = subst (λ x. TellThere a.deck.now c.requires.0 c.requires.1 a.store.now a.scratch.now (told_reply x)) c.in-Ok.is c.requires.2 in
    (T.room, T.space, ran_few a.deck.now T.lengths T.run c.in-Ok.n.stats c.in-Ok.n.fresh_ids c.in-Ok.n.visits T.ran, (T.ran.known, T.ran.read))

pub report-requires : goal.report-requires
report-requires c =
    let a = c.args in
    let j = c.judge-judged in
    let T : RanThere a.deck.now c.requires.0 c.requires.1 a.store.now a.scratch.now c.in-Ok.n.stats c.in-Ok.n.fresh_ids c.in-Ok.n.visits = subst (λ x. TellThere a.deck.now c.requires.0 c.requires.1 a.store.now a.scratch.now (told_reply x)) c.in-Ok.is c.requires.2 in
    let d = T.ran.known in
    record {
      run = T.run;
      counted = T.ran.counted;
      short = subst Short (sym (j.ensures d T.run.clauses T.ran.read)) (judged_short axioms d T.run.clauses (read_state d c.in-Ok.n.fresh_ids a.state.now) (read_in a.deck.now d T.ran.read));
      room = omega (arith, j.auto.store, T.room);
      space = omega (arith, j.auto.scratch, T.space);
    }
