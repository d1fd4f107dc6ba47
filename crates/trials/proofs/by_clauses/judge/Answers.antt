use mathlib.Core.Path.{sym, ap, ◌∙◌}
use Prim.Native.Nat.{ℕ, ◌≤◌}
use native.Mathlib.Omega.{arith}
use lib.ListN.{length}
use Rattle.words.specs.Words.{words}
use Rattle.words.specs.Laws.{length_words}
use Rattle.rules.specs.DeckLaws.{read_in}
use Rattle.states.specs.State.{read_state, interpretation_of}
use Rattle.states.specs.Test.{clauses}
use Rattle.trials.specs.Judged.{judged_of}
use Rattle.trials.specs.JudgingLaws.{stated_as, clausal_beside}
use Rattle.trials.proofs.by_clauses.judge.Goals as goal

pub tested-requires : goal.tested-requires
tested-requires c =
    let a = c.args in
    let m = c.limits-m in
    let q = c.read_state in
    let w = words q.new.store in
    let v = words q.new.scratch in
    let P = c.requires in
    let long : 16384 ≤ length w = omega (arith, length_words q.new.store, q.auto.store, P.room) in
    let d = P.known in
    let D = m.ensures.1 d P.read in
    let T = stated_as d m.result a.state.now w v D q.result c.in_ok-size.size c.in_ok-size.was (q.ensures.stated_as d D) in
    record {
      meant = interpretation_of d T.state;
      roles = d.header.roles;
      list = P.list;
      clausal = clausal_beside d m.result a.state.now w v (words a.clauses.now) (words a.atoms.now) c.in_ok-size.size a.count P.list T (read_in a.deck.now d P.read) long P.clauses_there;
      sized = P.sized;
      space = omega (arith, q.auto.scratch, m.auto.scratch, P.space);
    }

pub returns : goal.returns
returns c = λ d l e C.
    let a = c.args in
    let m = c.limits-m in
    let q = c.read_state in
    let w = words q.new.store in
    let v = words q.new.scratch in
    let P = c.requires in
    let long : 16384 ≤ length w = omega (arith, length_words q.new.store, q.auto.store, P.room) in
    let D = m.ensures.1 d e in
    let T = stated_as d m.result a.state.now w v D q.result c.in_ok-size.size c.in_ok-size.was (q.ensures.stated_as d D) in
    let X = clausal_beside d m.result a.state.now w v (words a.clauses.now) (words a.atoms.now) c.in_ok-size.size a.count l T (read_in a.deck.now d e) long C in
    c.tested.ensures (interpretation_of d T.state) d.header.roles l X ∙ sym (ap (judged_of clauses d l) T.read)
    ∙ ap (λ (f : ℕ). judged_of clauses d l (read_state d f a.state.now)) m.ensures.0
