use Prim.Native.Nat.{ℕ, ◌/◌}
use lib.ListN.{length}
use Rattle.extents.specs.Ready.{Fits}
use Rattle.states.specs.State.{interpretation_of}
use Rattle.states.specs.Test.{axioms}
use Rattle.trials.specs.Judged.{given, judged_of}
use mathlib.Core.Path.{◌≡◌, sym, ap, subst, ◌∙◌}
use native.Mathlib.Omega.{arith}
use Rattle.words.specs.Words.{words}
use Rattle.words.specs.Laws.{length_words}
use Rattle.trials.specs.JudgingLaws.{ready_beside, fits_beside, stated_as}
use Rattle.trials.proofs.by_axioms.loaded.Goals as goal

pub verdict-requires : goal.verdict-requires
verdict-requires c =
    let a = c.args in
    let q = c.read_state in
    let w = words q.new.store in
    let v = words q.new.scratch in
    let long : length v ≡ length (words a.scratch.now) = length_words q.new.scratch ∙ ap (λ (i : ℕ). i / 4) q.auto.scratch ∙ sym (length_words a.scratch.now) in
    let P = c.requires in
    let d = P.known in
    let T = stated_as d a.m a.state.now w v P.declares q.result c.in_ok-size.size c.in_ok-size.was (q.ensures.stated_as d P.declares) in
    let I = interpretation_of d T.state in
    record {
      known = d;
      meant = I;
      ready = ready_beside d (words a.scratch.now) v w a.k a.n P.loaded q.ensures.kept_to long I T.laid T.proper;
      fits = subst (Fits d I) (sym c.trial.ensures) (fits_beside d (words a.scratch.now) v w a.k a.n P.loaded q.ensures.kept_to long I c.in_ok-size.size T.elements);
      room = omega (arith, q.auto.store, P.room);
      space = omega (arith, q.auto.scratch, P.space);
    }

pub returns : goal.returns
returns c = λ d l S D.
    let a = c.args in
    let q = c.read_state in
    let w = words q.new.store in
    let v = words q.new.scratch in
    let long : length v ≡ length (words a.scratch.now) = length_words q.new.scratch ∙ ap (λ (i : ℕ). i / 4) q.auto.scratch ∙ sym (length_words a.scratch.now) in
    let T = stated_as d a.m a.state.now w v D q.result c.in_ok-size.size c.in_ok-size.was (q.ensures.stated_as d D) in
    let I = interpretation_of d T.state in
    let R = ready_beside d (words a.scratch.now) v w a.k a.n S q.ensures.kept_to long I T.laid T.proper in
    let F = subst (Fits d I) (sym c.trial.ensures) (fits_beside d (words a.scratch.now) v w a.k a.n S q.ensures.kept_to long I c.in_ok-size.size T.elements) in
    ap given (c.verdict.ensures d I R F) ∙ sym (ap (judged_of axioms d l) T.read)
