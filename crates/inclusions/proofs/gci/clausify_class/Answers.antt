use Rattle.inclusions.specs.ClassLaws.{class_full, class_asked, class_did, class_queues, class_clausified, class_queued}
use Rattle.axioms.specs.WholeLaws.{clausifying_after}
use Rattle.axioms.specs.QueuedLaws.{queued_no}
use Rattle.leaves.specs.ReadLaws.{class_small}
use Rattle.hands.specs.Hands.{four_of}
use Rattle.ir.specs.Answer.{done}
use Rattle.std.proofs.lemmas.Result.{err_from_is_err_and}
use Rattle.words.specs.Words.{words}
use native.Mathlib.Omega.{arith}
use mathlib.Core.Path.{sym, ◌∙◌}
use Rattle.inclusions.proofs.gci.clausify_class.Goals as goal

pub returns-in_err-visit-clause-clausified : goal.returns-in_err-visit-clause-clausified
returns-in_err-visit-clause-clausified c =
    let p = err_from_is_err_and c.from_residual.result c.from_residual.ensures.1 in
    let t = c.args.lent.now in
    let v = c.restart_vars in
    let E = c.in_err-visit.ensures in
    let K = class_full c.args.scratch.now t.counters v.new.self c.args.sub c.args.sup c.requires.0 c.requires.1 c.requires.3 v.ensures (words t.clauses.now) (words t.atoms.now) (words t.deferrals.now) (sym E.self_after) in
    rw (p.1, p.2, E.spent) (K, queued_no _ _ _ _ _ K)

pub put_atom-requires : goal.put_atom-requires
put_atom-requires c =
    (omega (arith, c.requires.0.space), omega (arith, class_small c.args.scratch.now c.args.lent.now.counters c.requires.0.encoding.reading c.args.sub c.requires.1 c.requires.3, c.number-class.ensures))

pub emit_head-requires : goal.emit_head-requires
emit_head-requires c =
    let v = c.restart_vars in
    let n = c.number-class in
    let p = c.put_atom in
    class_asked c.args.scratch.now c.args.lent.now.counters v.new.self c.args.sub c.args.sup c.requires.0 c.requires.1 c.requires.3 v.ensures p.new.t c.visit.new.self n.result (sym c.in_ok-visit.ensures.self_after) n.ensures p.ensures p.auto.t c.requires.2

pub returns : goal.returns
returns c =
    let s0 = c.args.scratch.now in
    let t = c.args.lent.now in
    let k = t.counters in
    let cl = words t.clauses.now in
    let at = words t.atoms.now in
    let de = words t.deferrals.now in
    let sub = c.args.sub in
    let sup = c.args.sup in
    let v = c.restart_vars in
    let m = c.visit.new.self in
    let n = c.number-class in
    let p = c.put_atom in
    let z = c.emit_head in
    let r = done z.new.lent.counters z.result in
    let y = four_of (words z.new.scratch) z.new.lent in
    let ev = sym c.in_ok-visit.ensures.self_after in
    let D = class_did s0 k v.new.self sub sup c.requires.0 c.requires.1 c.requires.3 v.ensures p.new.t m n.result ev n.ensures p.ensures cl at de y r z.ensures.did.0 in
    let U = class_queues s0 k v.new.self sub sup c.requires.0 c.requires.1 c.requires.3 v.ensures p.new.t m n.result ev n.ensures p.ensures cl at de y z.ensures.did.1 in record {
      references = z.ensures.references;
      clausified = (class_clausified s0 k v.new.self sub sup c.requires.0 c.requires.1 c.requires.3 v.ensures cl at de y r D, class_queued s0 k v.new.self sub sup c.requires.0 c.requires.1 c.requires.3 v.ensures cl at de y U);
      clausifying_after = clausifying_after s0 z.new.scratch k r c.requires.0 (z.auto.scratch ∙ p.auto.t) D.frame D.good D.kept;
    }
