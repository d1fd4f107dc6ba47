use native.Mathlib.Omega.{arith}
use mathlib.Core.Path.{subst, ap}
use Rattle.std.proofs.lemmas.Result.{err_from_is_err_and}
use Rattle.ir.specs.Answer.{answer, done}
use Rattle.words.specs.Words.{words}
use Rattle.hands.specs.Hands.{four_of}
use Rattle.inclusions.specs.Parted.{Normalised}
use Rattle.inclusions.specs.GrowLaws.{grew_normal, grew_asks, filled_clausifying}
use Rattle.clausifier.specs.HalfLaws.{name_rule, name_normalised, half_done, half_queued, half_stop}
use Rattle.clausifier.proofs.settle.settle_one.Goals as goal

pub number_alternatives-requires : goal.number_alternatives-requires
number_alternatives-requires c =
    let s0 = c.args.scratch.now in
    let k = c.args.lent.now.counters in
    let name = c.args.name in
    let h = c.mk_atomic in
    let s1 = h.new.scratch in
    let N = name_normalised s0 s1 k name (answer h.new.k h.result) c.requires.0 c.requires.2 h.auto.scratch h.ensures.interned h.ensures.scratch_unchanged in
    let l = h.new.k in
    let i = c.in_ok-a.a in
    let M = subst (Normalised (name_rule name) k s0 s1) (ap (answer l) c.in_ok-a.was) N in
    let G = grew_normal (name_rule name) k l i s0 s1 M in
    grew_asks s0 s1 k l c.requires.0 h.auto.scratch G

pub clausify_gci-requires : goal.clausify_gci-requires
clausify_gci-requires c =
    let s0 = c.args.scratch.now in
    let k = c.args.lent.now.counters in
    let name = c.args.name in
    let h = c.mk_atomic in
    let s1 = h.new.scratch in
    let N = name_normalised s0 s1 k name (answer h.new.k h.result) c.requires.0 c.requires.2 h.auto.scratch h.ensures.interned h.ensures.scratch_unchanged in
    let l = h.new.k in
    let i = c.in_ok-a.a in
    let M = subst (Normalised (name_rule name) k s0 s1) (ap (answer l) c.in_ok-a.was) N in
    let G = grew_normal (name_rule name) k l i s0 s1 M in
    let n = c.number_alternatives in
    let s2 = n.new.scratch in
    let K = filled_clausifying s0 s1 s2 k l G n.ensures.1 c.requires.0 h.auto.scratch n.auto.scratch n.ensures.0 in
    (K, omega (arith, c.requires.1, G.onward.concepts), M.interned.inside)

pub returns : goal.returns
returns c =
    let s0 = c.args.scratch.now in
    let k = c.args.lent.now.counters in
    let name = c.args.name in
    let h = c.mk_atomic in
    let s1 = h.new.scratch in
    let N = name_normalised s0 s1 k name (answer h.new.k h.result) c.requires.0 c.requires.2 h.auto.scratch h.ensures.interned h.ensures.scratch_unchanged in
    let l = h.new.k in
    let i = c.in_ok-a.a in
    let M = subst (Normalised (name_rule name) k s0 s1) (ap (answer l) c.in_ok-a.was) N in
    let G = grew_normal (name_rule name) k l i s0 s1 M in
    let n = c.number_alternatives in
    let s2 = n.new.scratch in
    let K = filled_clausifying s0 s1 s2 k l G n.ensures.1 c.requires.0 h.auto.scratch n.auto.scratch n.ensures.0 in
    let z = c.clausify_gci in
    let y = four_of (words z.new.scratch) z.new.lent in
    let cl = words c.args.lent.now.clauses.now in
    let at = words c.args.lent.now.atoms.now in
    let de = words c.args.lent.now.deferrals.now in record {
      references = z.ensures.references;
      clausified = (half_done c.args.filler name k s0 s1 cl at de l i s2 y M n.ensures.1 (done z.new.lent.counters z.result) z.ensures.clausified.0, half_queued c.args.filler name k s0 s1 cl at de l i s2 y M n.ensures.1 z.ensures.clausified.1);
      clausifying_after = z.ensures.clausifying_after;
    }

pub returns-in_err-a-clause-clausified : goal.returns-in_err-a-clause-clausified
returns-in_err-a-clause-clausified c =
    let p = err_from_is_err_and c.from_residual.result c.from_residual.ensures.1 in
    let s0 = c.args.scratch.now in
    let k = c.args.lent.now.counters in
    let name = c.args.name in
    let h = c.mk_atomic in
    let s1 = h.new.scratch in
    let N = name_normalised s0 s1 k name (answer h.new.k h.result) c.requires.0 c.requires.2 h.auto.scratch h.ensures.interned h.ensures.scratch_unchanged in
    rw (p.1, p.2) (half_stop c.args.filler name k s0 s1 (words c.args.lent.now.clauses.now) (words c.args.lent.now.atoms.now) (words c.args.lent.now.deferrals.now) _ (subst (Normalised (name_rule name) k s0 s1) (ap (answer h.new.k) c.in_err-a.was) N))
