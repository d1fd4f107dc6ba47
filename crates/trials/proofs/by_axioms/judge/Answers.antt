use Prim.Native.Nat.{ℕ}
use mathlib.Core.Path.{ap, subst, ◌∙◌}
use native.Mathlib.Omega.{arith}
use Rattle.words.specs.Words.{words}
use Rattle.rules.specs.Deck.{read_deck}
use Rattle.ir.specs.declared.counters.Counters.{Counters}
use Rattle.ir.specs.declared.answer.Refused.{Refused}
use Rattle.std.specs.Prelude.{Result}
use Rattle.ontology.specs.Loads.{LoadedAs, loaded_of}
use Rattle.states.specs.State.{read_state}
use Rattle.states.specs.Test.{axioms}
use Rattle.trials.specs.Judged.{judged_of}
use Rattle.trials.specs.JudgingLaws.{loaded_in}
use Rattle.trials.proofs.by_axioms.judge.Goals as goal

pub loaded-requires : goal.loaded-requires
loaded-requires c =
    let P = c.requires in
    let m = c.limits-m in
    let q = c.load in
    let d = P.3.0 in
    record {
      known = d;
      loaded = loaded_in c.args.deck.now (words q.new.scratch) c.in_ok-k.k c.in_ok-k.n d (subst (λ (r : Result (Counters × ℕ) Refused). LoadedAs 0 (read_deck c.args.deck.now) (words q.new.scratch) (loaded_of r)) c.in_ok-k.was q.ensures) P.3.1;
      declares = m.ensures.1 d P.3.1;
      room = P.0;
      space = omega (arith, q.auto.scratch, m.auto.scratch, P.1);
    }

pub returns : goal.returns
returns c = λ d l e.
    let m = c.limits-m in
    let q = c.load in
    let S = loaded_in c.args.deck.now (words q.new.scratch) c.in_ok-k.k c.in_ok-k.n d (subst (λ (r : Result (Counters × ℕ) Refused). LoadedAs 0 (read_deck c.args.deck.now) (words q.new.scratch) (loaded_of r)) c.in_ok-k.was q.ensures) e in
    c.loaded.ensures d l S (m.ensures.1 d e) ∙ ap (λ (f : ℕ). judged_of axioms d l (read_state d f c.args.state.now)) m.ensures.0
