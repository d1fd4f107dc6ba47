use Rattle.inclusions.specs.Parted.{head_alone}
use Rattle.inclusions.specs.Absorbs.{always_head}
use Rattle.inclusions.specs.GrowLaws.{grew_normal, grew_asks, filled_clausifying}
use Rattle.inclusions.specs.AbsorbLaws.{always_did, always_queues, emitting_none, none_done, none_queued}
use Rattle.inclusions.specs.NormalLaws.{nnf_stop}
use Rattle.axioms.specs.WholeLaws.{clausifying_after}
use Rattle.axioms.specs.QueuedLaws.{queued_no}
use Rattle.rules.specs.Axioms.{in_out}
use Rattle.hands.specs.Hands.{four_of}
use Rattle.ir.specs.Answer.{done}
use Rattle.std.proofs.lemmas.Result.{err_from_is_err_and}
use Rattle.words.specs.Words.{words}
use native.Mathlib.Omega.{arith}
use Rattle.inclusions.proofs.absorb.absorb_none.Goals as goal

pub head_alone-requires : goal.head_alone-requires
head_alone-requires c = (c.requires.0.encoding.reading, c.requires.0.good, c.requires.1, c.requires.2, omega (arith, c.requires.0.space))

pub number_alternatives-requires : goal.number_alternatives-requires
number_alternatives-requires c =
    let s0 = c.args.scratch.now in
    let k = c.args.lent.now.counters in
    let h = c.head_alone in
    let G = grew_normal (head_alone c.args.sub c.args.sup) k h.new.k c.in_ok-head.head s0 h.new.scratch c.in_ok-head.ensures in
    grew_asks s0 h.new.scratch k h.new.k c.requires.0 h.auto.scratch G

pub emit_head-requires : goal.emit_head-requires
emit_head-requires c =
    let s0 = c.args.scratch.now in
    let k = c.args.lent.now.counters in
    let h = c.head_alone in
    let s1 = h.new.scratch in
    let l = h.new.k in
    let head = c.in_ok-head.head in
    let M = c.in_ok-head.ensures in
    let G = grew_normal (head_alone c.args.sub c.args.sup) k l head s0 s1 M in
    let n = c.number_alternatives in
    let K = filled_clausifying s0 s1 n.new.scratch k l G n.ensures.1 c.requires.0 h.auto.scratch n.auto.scratch n.ensures.0 in
    emitting_none n.new.scratch l c.restart_vars.new.self head K c.restart_vars.ensures M.interned.inside

pub returns : goal.returns
returns c =
    let s0 = c.args.scratch.now in
    let t = c.args.lent.now in
    let k = t.counters in
    let h = c.head_alone in
    let s1 = h.new.scratch in
    let l = h.new.k in
    let head = c.in_ok-head.head in
    let M = c.in_ok-head.ensures in
    let G = grew_normal (head_alone c.args.sub c.args.sup) k l head s0 s1 M in
    let n = c.number_alternatives in
    let s2 = n.new.scratch in
    let K = filled_clausifying s0 s1 s2 k l G n.ensures.1 c.requires.0 h.auto.scratch n.auto.scratch n.ensures.0 in
    let q = c.restart_vars in
    let z = c.emit_head in
    let r = done z.new.lent.counters z.result in
    let y = four_of (words z.new.scratch) z.new.lent in
    let D = always_did l q.new.self head (words s2) (words t.clauses.now) (words t.atoms.now) (words t.deferrals.now) y r q.ensures z.ensures.did.0 in
    let U = always_queues l q.new.self head (words s2) (words t.clauses.now) (words t.atoms.now) (words t.deferrals.now) y q.ensures z.ensures.did.1 in record {
      references = z.ensures.references;
      clausified = (none_done c.args.sub c.args.sup head k l s0 s1 s2 (words t.clauses.now) (words t.atoms.now) (words t.deferrals.now) y r M n.ensures.1 K.encoding.reading.ready.held D, none_queued c.args.sub c.args.sup head k l s0 s1 s2 (words t.clauses.now) (words t.atoms.now) (words t.deferrals.now) y M n.ensures.1 U);
      clausifying_after = clausifying_after s2 z.new.scratch l r K z.auto.scratch D.frame D.good D.kept;
    }

pub returns-in_err-head-clause-clausified : goal.returns-in_err-head-clause-clausified
returns-in_err-head-clause-clausified c =
    let p = err_from_is_err_and c.from_residual.result c.from_residual.ensures.1 in
    let t = c.args.lent.now in
    let K = nnf_stop (head_alone c.args.sub c.args.sup) t.counters c.args.scratch.now c.head_alone.new.scratch (words t.clauses.now) (words t.atoms.now) (words t.deferrals.now) (λ env j. in_out (always_head env j)) _ c.in_err-head.ensures in
    rw (p.1, p.2) (K, queued_no _ _ _ _ _ K)
