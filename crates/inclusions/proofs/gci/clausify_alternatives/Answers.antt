use Rattle.inclusions.specs.EncodeLaws.{none_alike, clausifying_alike, encode_asks, bodies_asks}
use Rattle.inclusions.specs.GciLaws.{gci_found, found_queued, gci_none, hard_queued, gci_refused}
use Rattle.axioms.specs.RoleLaws.{good_restart}
use Rattle.axioms.specs.WholeLaws.{clausifying_after}
use Rattle.axioms.specs.QueuedLaws.{queued_no}
use Rattle.antecedents.specs.Counts.{GoodEncoded}
use Rattle.hands.specs.Hands.{four_of}
use Rattle.ir.specs.Answer.{done}
use Rattle.ir.specs.Encoded.{encoded}
use Rattle.std.specs.Prelude.{Ok}
use Rattle.std.proofs.lemmas.Result.{err_from_is_err_and}
use Rattle.words.specs.Words.{words}
use native.Mathlib.Omega.{arith}
use mathlib.Core.Path.{subst, ap, ◌∙◌}
use Rattle.inclusions.proofs.gci.clausify_alternatives.Goals as goal

pub encode_antecedent-requires : goal.encode_antecedent-requires
encode_antecedent-requires c = encode_asks c.args.scratch.now c.args.lent.now.counters c.restart_vars.new.self c.args.sub c.requires.0 c.restart_vars.ensures c.requires.1

pub emit_bodies-requires : goal.emit_bodies-requires
emit_bodies-requires c =
    let v = c.restart_vars in
    let r = c.encode_antecedent in
    let x = c.in-Some.a in
    let is = ap (encoded r.new.k) (c.in_ok-a.was ∙ ap Ok c.in-Some.is) in
    let B = bodies_asks c.args.scratch.now c.args.lent.now.counters v.new.self r.new.k c.args.sub c.args.sup x.count x.longest (encoded r.new.k r.result) c.requires.0 v.ensures c.requires.1 c.requires.2 r.ensures.0 r.ensures.1 is in
    (B.clausifying.encoding, B.sub, B.sup, c.requires.0.queue, B.clausifying.good, B.sourced)

pub absorb_hard_antecedent-requires : goal.absorb_hard_antecedent-requires
absorb_hard_antecedent-requires c =
    let s0 = c.args.scratch.now in
    let t = c.args.lent.now in
    let v = c.restart_vars in
    let r = c.encode_antecedent in
    let is = ap (encoded r.new.k) (c.in_ok-a.was ∙ ap Ok c.in-None.is) in
    let g1 = good_restart t.counters v.new.self v.ensures c.requires.0.good in
    let A = none_alike t.counters v.new.self c.args.sub (words s0) (words t.clauses.now) (words t.atoms.now) (words t.deferrals.now) (encoded r.new.k r.result) v.ensures g1 r.ensures.0 r.new.k is in
    (clausifying_alike s0 t.counters r.new.k c.requires.0 A (subst GoodEncoded is r.ensures.1), omega (arith, c.requires.1, A.concepts), omega (arith, c.requires.2, A.concepts))

pub returns-in-Some : goal.returns-in-Some
returns-in-Some c =
    let s0 = c.args.scratch.now in
    let t = c.args.lent.now in
    let k = t.counters in
    let sub = c.args.sub in
    let sup = c.args.sup in
    let v = c.restart_vars in
    let r = c.encode_antecedent in
    let x = c.in-Some.a in
    let is = ap (encoded r.new.k) (c.in_ok-a.was ∙ ap Ok c.in-Some.is) in
    let g1 = good_restart k v.new.self v.ensures c.requires.0.good in
    let B = bodies_asks s0 k v.new.self r.new.k sub sup x.count x.longest (encoded r.new.k r.result) c.requires.0 v.ensures c.requires.1 c.requires.2 r.ensures.0 r.ensures.1 is in
    let z = c.emit_bodies in
    let a = done z.new.lent.counters z.result in
    let y = four_of (words z.new.scratch) z.new.lent in
    let D = z.ensures.did.0 in record {
      references = z.ensures.references;
      clausified = (
        gci_found k v.new.self sub sup (words s0) (words t.clauses.now) (words t.atoms.now) (words t.deferrals.now) (encoded r.new.k r.result) v.ensures g1 r.ensures.0 r.new.k x.count x.longest y a is c.requires.0.encoding.reading.ready.held D,
        found_queued k v.new.self sub sup (words s0) (words t.clauses.now) (words t.atoms.now) (words t.deferrals.now) (encoded r.new.k r.result) v.ensures g1 r.ensures.0 r.new.k x.count x.longest y is z.ensures.did.1,
      );
      clausifying_after = clausifying_after s0 z.new.scratch r.new.k a B.clausifying z.auto.scratch D.frame D.good D.kept;
    }

pub returns-in-None : goal.returns-in-None
returns-in-None c =
    let s0 = c.args.scratch.now in
    let t = c.args.lent.now in
    let k = t.counters in
    let sub = c.args.sub in
    let sup = c.args.sup in
    let v = c.restart_vars in
    let r = c.encode_antecedent in
    let is = ap (encoded r.new.k) (c.in_ok-a.was ∙ ap Ok c.in-None.is) in
    let g1 = good_restart k v.new.self v.ensures c.requires.0.good in
    let z = c.absorb_hard_antecedent in
    let y = four_of (words z.new.scratch) z.new.lent in record {
      references = z.ensures.references;
      clausified = (
        gci_none k v.new.self sub sup (words s0) (words t.clauses.now) (words t.atoms.now) (words t.deferrals.now) (encoded r.new.k r.result) v.ensures g1 r.ensures.0 r.new.k y (done z.new.lent.counters z.result) is z.ensures.clausified.0,
        hard_queued k v.new.self sub sup (words s0) (words t.clauses.now) (words t.atoms.now) (words t.deferrals.now) (encoded r.new.k r.result) v.ensures g1 r.ensures.0 r.new.k y is z.ensures.clausified.1,
      );
      clausifying_after = z.ensures.clausifying_after;
    }

pub returns-in_err-a-clause-clausified : goal.returns-in_err-a-clause-clausified
returns-in_err-a-clause-clausified c =
    let p = err_from_is_err_and c.from_residual.result c.from_residual.ensures.1 in
    let t = c.args.lent.now in
    let v = c.restart_vars in
    let r = c.encode_antecedent in
    let g1 = good_restart t.counters v.new.self v.ensures c.requires.0.good in
    let K = gci_refused t.counters v.new.self c.args.sub c.args.sup (words c.args.scratch.now) (words t.clauses.now) (words t.atoms.now) (words t.deferrals.now) (encoded r.new.k r.result) v.ensures g1 r.ensures.0 _ (ap (encoded r.new.k) c.in_err-a.was) in
    rw (p.1, p.2) (K, queued_no _ _ _ _ _ K)
