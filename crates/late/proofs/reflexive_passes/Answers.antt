use mathlib.Core.Path.{refl}
use native.Mathlib.Omega.{arith}
use Rattle.std.proofs.lemmas.Result.{err_from_is_err_and}
use Rattle.words.specs.Words.{words}
use Rattle.words.specs.Laws.{words_long}
use Rattle.ir.specs.Answer.{Done, done}
use Rattle.hands.specs.HandLaws.{sized_two}
use Rattle.late.specs.FlaggedLaws.{flagged_standing, flagged_drawn, flagged_none, unfolded_refused, unfolded_good, unfolded_standing, unfolded_drawn, looped}
use Rattle.late.proofs.reflexive_passes.Goals as goal

pub returns-then-size-eq0-clause-did : goal.returns-then-size-eq0-clause-did
returns-then-size-eq0-clause-did c =
    let t = c.args.lent.now in
    let C = words t.clauses.now in
    let A = words t.atoms.now in
    let D = words t.deferrals.now in
    λ F. flagged_none c.args.scratch.now t.counters c.args.size C A D F c.if-size-eq0.true

pub apply_reflexive_roles-requires : goal.apply_reflexive_roles-requires
apply_reflexive_roles-requires c =
    let t = c.args.lent.now in
    let C = words t.clauses.now in
    let A = words t.atoms.now in
    let D = words t.deferrals.now in
    let F = c.requires in
    (flagged_standing c.args.scratch.now t.counters c.args.size C A D F, flagged_drawn c.args.scratch.now t.counters c.args.size C A D F, F.good, F.space)

pub returns-in_err-apply_reflexive_roles-clause-did : goal.returns-in_err-apply_reflexive_roles-clause-did
returns-in_err-apply_reflexive_roles-clause-did c =
    let p = err_from_is_err_and c.from_residual.result c.from_residual.ensures.1 in
    let t = c.args.lent.now in
    let C = words t.clauses.now in
    let A = words t.atoms.now in
    let D = words t.deferrals.now in
    let m = c.apply_reflexive_roles in
    let n = m.new.lent in
    let w = words m.new.scratch in
    let C' = words n.clauses.now in
    let A' = words n.atoms.now in
    let D' = words n.deferrals.now in
    let some = c.if-size-eq0.false in
    let R = m.ensures.references in
    rw (p.1, p.2) (λ F. unfolded_refused c.args.scratch.now t.counters c.args.size C A D F some w C' A' D' _ c.in_err-apply_reflexive_roles.ensures.fact _ refl)

pub add_counted_self_loops-requires : goal.add_counted_self_loops-requires
add_counted_self_loops-requires c =
    let t = c.args.lent.now in
    let C = words t.clauses.now in
    let A = words t.atoms.now in
    let D = words t.deferrals.now in
    let m = c.apply_reflexive_roles in
    let n = m.new.lent in
    let w = words m.new.scratch in
    let C' = words n.clauses.now in
    let A' = words n.atoms.now in
    let D' = words n.deferrals.now in
    let some = c.if-size-eq0.false in
    let R = m.ensures.references in
    let F = c.requires in (
      unfolded_standing c.args.scratch.now t.counters c.args.size C A D F some w C' A' D' (Done n.counters 0) c.in_ok-apply_reflexive_roles.ensures.fact n.counters 0 refl c.in_ok-apply_reflexive_roles.ensures.standing_after,
      (D', unfolded_drawn c.args.scratch.now t.counters c.args.size C A D F some w C' A' D' (Done n.counters 0) c.in_ok-apply_reflexive_roles.ensures.fact n.counters 0 refl (words_long t.clauses.now n.clauses.now R.3) (words_long t.atoms.now n.atoms.now R.4) (words_long t.deferrals.now n.deferrals.now R.5)),
      unfolded_good c.args.scratch.now t.counters c.args.size C A D F some w C' A' D' (Done n.counters 0) c.in_ok-apply_reflexive_roles.ensures.fact n.counters 0 refl,
      omega (arith, F.space, m.auto.scratch),
      sized_two n.sized,
    )

pub returns-clause-did : goal.returns-clause-did
returns-clause-did c =
    let t = c.args.lent.now in
    let C = words t.clauses.now in
    let A = words t.atoms.now in
    let D = words t.deferrals.now in
    let m = c.apply_reflexive_roles in
    let n = m.new.lent in
    let w = words m.new.scratch in
    let C' = words n.clauses.now in
    let A' = words n.atoms.now in
    let D' = words n.deferrals.now in
    let some = c.if-size-eq0.false in
    let R = m.ensures.references in
    let q = c.add_counted_self_loops in
    (λ F. looped c.args.scratch.now t.counters c.args.size C A D F some w C' A' D' (Done n.counters 0) c.in_ok-apply_reflexive_roles.ensures.fact n.counters 0 refl (words_long t.clauses.now n.clauses.now R.3) (words_long t.atoms.now n.atoms.now R.4) (words_long t.deferrals.now n.deferrals.now R.5) (words q.new.scratch) (words q.new.clauses) (words q.new.atoms) (done q.new.k q.result) (q.ensures.fact D'))
