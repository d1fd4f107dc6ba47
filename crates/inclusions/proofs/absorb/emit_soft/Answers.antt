use Rattle.inclusions.specs.EncodeLaws.{encode_asks, bodies_asks}
use Rattle.inclusions.specs.AbsorbLaws.{gives_found, gives_queues, gives_none, none_queues, gives_refused}
use Rattle.axioms.specs.RoleLaws.{good_restart}
use Rattle.antecedents.specs.Counts.{GoodEncoded}
use Rattle.hands.specs.Hands.{four_of}
use Rattle.hands.specs.QueueLaws.{queues_no}
use Rattle.ir.specs.Answer.{done}
use Rattle.ir.specs.Encoded.{encoded}
use Rattle.std.specs.Prelude.{Ok}
use Rattle.std.proofs.lemmas.Result.{err_from_is_err_and}
use Rattle.words.specs.Words.{words}
use mathlib.Core.Path.{subst, ap, ◌∙◌}
use Rattle.inclusions.proofs.absorb.emit_soft.Goals as goal

pub encode_antecedent-requires : goal.encode_antecedent-requires
encode_antecedent-requires c = encode_asks c.args.scratch.now c.args.lent.now.counters c.restart_vars.new.self c.args.g c.requires.0 c.restart_vars.ensures c.requires.1

pub emit_bodies-requires : goal.emit_bodies-requires
emit_bodies-requires c =
    let v = c.restart_vars in
    let r = c.encode_antecedent in
    let x = c.in-Some.a in
    let is = ap (encoded r.new.k) (c.in_ok-a.was ∙ ap Ok c.in-Some.is) in
    let B = bodies_asks c.args.scratch.now c.args.lent.now.counters v.new.self r.new.k c.args.g c.args.head x.count x.longest (encoded r.new.k r.result) c.requires.0 v.ensures c.requires.1 c.requires.2 r.ensures.0 r.ensures.1 is in
    (B.clausifying.encoding, B.sub, B.sup, c.requires.0.queue, B.clausifying.good, B.sourced)

pub returns-in-Some-clause-did : goal.returns-in-Some-clause-did
returns-in-Some-clause-did c =
    let v = c.restart_vars in
    let r = c.encode_antecedent in
    let t = c.args.lent.now in
    let x = c.in-Some.a in
    let is = ap (encoded r.new.k) (c.in_ok-a.was ∙ ap Ok c.in-Some.is) in
    let g1 = good_restart t.counters v.new.self v.ensures c.requires.0.good in
    let q = c.emit_bodies in
    let y = four_of (words q.new.scratch) q.new.lent in (
      gives_found t.counters v.new.self c.args.g c.args.head (words c.args.scratch.now) (words t.clauses.now) (words t.atoms.now) (words t.deferrals.now) (encoded r.new.k r.result) v.ensures g1 r.ensures.0
          r.new.k x.count x.longest y (done q.new.lent.counters q.result) is q.ensures.did.0,
      gives_queues t.counters v.new.self c.args.g c.args.head (words c.args.scratch.now) (words t.clauses.now) (words t.atoms.now) (words t.deferrals.now) (encoded r.new.k r.result) v.ensures g1 r.ensures.0
          r.new.k x.count x.longest y is q.ensures.did.1,
    )

pub returns-in-None-clause-did : goal.returns-in-None-clause-did
returns-in-None-clause-did c =
    let v = c.restart_vars in
    let r = c.encode_antecedent in
    let t = c.args.lent.now in
    let is = ap (encoded r.new.k) (c.in_ok-a.was ∙ ap Ok c.in-None.is) in
    let g1 = good_restart t.counters v.new.self v.ensures c.requires.0.good in
    let q = c.defer in (
      gives_none t.counters v.new.self c.args.g c.args.head (words c.args.scratch.now) (words t.clauses.now) (words t.atoms.now) (words t.deferrals.now) (encoded r.new.k r.result) v.ensures g1 r.ensures.0
          r.new.k (words q.new.deferrals) (done q.new.k q.result) is (q.ensures.good_answer (subst GoodEncoded is r.ensures.1)) q.ensures.kept_answer q.ensures.deferrals_after,
      none_queues t.counters v.new.self c.args.g c.args.head (words c.args.scratch.now) (words t.clauses.now) (words t.atoms.now) (words t.deferrals.now) (encoded r.new.k r.result) v.ensures g1 r.ensures.0
          r.new.k (words q.new.deferrals) is,
    )

pub returns-in_err-a-clause-did : goal.returns-in_err-a-clause-did
returns-in_err-a-clause-did c =
    let p = err_from_is_err_and c.from_residual.result c.from_residual.ensures.1 in
    let v = c.restart_vars in
    let r = c.encode_antecedent in
    let t = c.args.lent.now in
    let g1 = good_restart t.counters v.new.self v.ensures c.requires.0.good in
    let D = gives_refused t.counters v.new.self c.args.g c.args.head (words c.args.scratch.now) (words t.clauses.now) (words t.atoms.now) (words t.deferrals.now) (encoded r.new.k r.result) v.ensures g1 r.ensures.0 _ (ap (encoded r.new.k) c.in_err-a.was) in
    rw (p.1, p.2) (D, queues_no _ _ _ _ _ _ _ (λ _. 0) _ D)
