use Rattle.inclusions.specs.Parted.{soft_at, hard_at, head_over, soft_and_of}
use Rattle.inclusions.specs.Absorbs.{gives_head}
use Rattle.inclusions.specs.GrowLaws.{grew_normal, grew_then, grew_asks, filled_clausifying}
use Rattle.inclusions.specs.AbsorbLaws.{soft_inside, some_done, some_queued, some_stop}
use Rattle.inclusions.specs.NormalLaws.{nnf_stop}
use Rattle.axioms.specs.WholeLaws.{clausifying_after}
use Rattle.axioms.specs.QueuedLaws.{queued_no}
use Rattle.rules.specs.Base.{◌>>=◌}
use Rattle.rules.specs.Axioms.{in_nnf, in_out}
use Rattle.pool.specs.Layout.{run}
use Rattle.hands.specs.Hands.{four_of}
use Rattle.ir.specs.Answer.{done}
use Rattle.std.proofs.lemmas.Result.{err_from_is_err_and}
use Rattle.words.specs.Words.{words}
use native.Mathlib.Omega.{arith}
use mathlib.Core.Path.{◌∙◌}
use Rattle.inclusions.proofs.absorb.absorb_some.Goals as goal

pub soft_and-requires : goal.soft_and-requires
soft_and-requires c =
    let s0 = c.args.scratch.now in
    let k = c.args.lent.now.counters in
    let hard = run (words s0) hard_at c.args.hard in
    let h = c.head_over in
    let M = c.in_ok-head.ensures in
    (M.interned.reading, M.interned.good, c.requires.3.few, omega (arith, c.requires.0.space, h.auto.scratch), soft_inside (head_over hard c.args.sup) k h.new.k c.in_ok-head.head s0 h.new.scratch c.args.soft M c.requires.3.soft_in)

pub number_alternatives-requires : goal.number_alternatives-requires
number_alternatives-requires c =
    let s0 = c.args.scratch.now in
    let k = c.args.lent.now.counters in
    let hard = run (words s0) hard_at c.args.hard in
    let h = c.head_over in
    let s1 = h.new.scratch in
    let l = h.new.k in
    let M = c.in_ok-head.ensures in
    let a = c.soft_and in
    let s2 = a.new.scratch in
    let m = a.new.k in
    let H = grew_normal (soft_and_of (run (words s1) soft_at c.args.soft)) l m c.in_ok-g.g s1 s2 c.in_ok-g.ensures in
    let G = grew_then s0 s1 s2 k l m (grew_normal (head_over hard c.args.sup) k l c.in_ok-head.head s0 s1 M) H in
    grew_asks s0 s2 k m c.requires.0 (a.auto.scratch ∙ h.auto.scratch) G

pub emit_soft-requires : goal.emit_soft-requires
emit_soft-requires c =
    let s0 = c.args.scratch.now in
    let k = c.args.lent.now.counters in
    let hard = run (words s0) hard_at c.args.hard in
    let h = c.head_over in
    let s1 = h.new.scratch in
    let l = h.new.k in
    let M = c.in_ok-head.ensures in
    let a = c.soft_and in
    let s2 = a.new.scratch in
    let m = a.new.k in
    let J = c.in_ok-g.ensures in
    let H = grew_normal (soft_and_of (run (words s1) soft_at c.args.soft)) l m c.in_ok-g.g s1 s2 J in
    let G = grew_then s0 s1 s2 k l m (grew_normal (head_over hard c.args.sup) k l c.in_ok-head.head s0 s1 M) H in
    let n = c.number_alternatives in
    let K = filled_clausifying s0 s2 n.new.scratch k m G n.ensures.1 c.requires.0 (a.auto.scratch ∙ h.auto.scratch) n.auto.scratch n.ensures.0 in
    (K, J.interned.inside, omega (arith, M.interned.inside, H.onward.concepts))

pub shape_of-scratch : goal.shape_of-scratch
shape_of-scratch c = c.emit_soft.auto.scratch ∙ c.number_alternatives.auto.scratch ∙ c.soft_and.auto.scratch ∙ c.head_over.auto.scratch

pub returns : goal.returns
returns c =
    let s0 = c.args.scratch.now in
    let t = c.args.lent.now in
    let k = t.counters in
    let cl = words t.clauses.now in
    let at = words t.atoms.now in
    let de = words t.deferrals.now in
    let sup = c.args.sup in
    let soft = c.args.soft in
    let hard = run (words s0) hard_at c.args.hard in
    let h = c.head_over in
    let s1 = h.new.scratch in
    let l = h.new.k in
    let head = c.in_ok-head.head in
    let M = c.in_ok-head.ensures in
    let a = c.soft_and in
    let s2 = a.new.scratch in
    let m = a.new.k in
    let g = c.in_ok-g.g in
    let J = c.in_ok-g.ensures in
    let H = grew_normal (soft_and_of (run (words s1) soft_at soft)) l m g s1 s2 J in
    let G = grew_then s0 s1 s2 k l m (grew_normal (head_over hard sup) k l head s0 s1 M) H in
    let n = c.number_alternatives in
    let s3 = n.new.scratch in
    let K = filled_clausifying s0 s2 s3 k m G n.ensures.1 c.requires.0 (a.auto.scratch ∙ h.auto.scratch) n.auto.scratch n.ensures.0 in
    let z = c.emit_soft in
    let r = done z.new.lent.counters z.result in
    let y = four_of (words z.new.scratch) z.new.lent in record {
      references = z.ensures.references;
      clausified = (some_done sup head soft hard k l s0 s1 s2 cl at de M m g s3 y r J n.ensures.1 K.encoding.reading.ready.held z.ensures.did.0, some_queued sup head soft hard k l s0 s1 s2 cl at de M m g s3 y J n.ensures.1 z.ensures.did.1);
      clausifying_after = clausifying_after s3 z.new.scratch m r K z.auto.scratch z.ensures.did.0.frame z.ensures.did.0.good z.ensures.did.0.kept;
    }

pub returns-in_err-g-clause-clausified : goal.returns-in_err-g-clause-clausified
returns-in_err-g-clause-clausified c =
    let p = err_from_is_err_and c.from_residual-in_err-g.result c.from_residual-in_err-g.ensures.1 in
    let s0 = c.args.scratch.now in
    let t = c.args.lent.now in
    let hard = run (words s0) hard_at c.args.hard in
    let h = c.head_over in
    let a = c.soft_and in
    let K = some_stop c.args.sup c.in_ok-head.head c.args.soft hard t.counters h.new.k s0 h.new.scratch a.new.scratch (words t.clauses.now) (words t.atoms.now) (words t.deferrals.now) c.in_ok-head.ensures _ c.in_err-g.ensures in
    rw (p.1, p.2) (K, queued_no _ _ _ _ _ K)

pub returns-in_err-head-clause-clausified : goal.returns-in_err-head-clause-clausified
returns-in_err-head-clause-clausified c =
    let p = err_from_is_err_and c.from_residual.result c.from_residual.ensures.1 in
    let s0 = c.args.scratch.now in
    let t = c.args.lent.now in
    let hard = run (words s0) hard_at c.args.hard in
    let K = nnf_stop (head_over hard c.args.sup) t.counters s0 c.head_over.new.scratch (words t.clauses.now) (words t.atoms.now) (words t.deferrals.now) (λ env j. in_nnf (soft_and_of (run (words s0) soft_at c.args.soft)) >>= (λ g. in_out (gives_head env g j))) _ c.in_err-head.ensures in
    rw (p.1, p.2) (K, queued_no _ _ _ _ _ K)
