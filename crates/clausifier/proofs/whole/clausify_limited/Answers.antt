use mathlib.Core.Path.{◌∙◌}
use Rattle.std.proofs.lemmas.Result.{err_from_is_err_and}
use Rattle.ir.specs.Answer.{done}
use Rattle.words.specs.Words.{words}
use Rattle.ontology.specs.Layout.{axiom_at}
use Rattle.hands.specs.Hands.{four, four_of}
use Rattle.lists.specs.TurnLaws.{long_words}
use Rattle.clausifier.specs.LimitedLaws.{reset_clausifying, reset_none, reset_axiom, own_stop, own_unsettled, own_settled, reset_for, reset_names, reset_limited}
use Rattle.clausifier.proofs.whole.clausify_limited.Goals as goal

pub clausify_axiom-requires : goal.clausify_axiom-requires
clausify_axiom-requires c =
    let k = c.args.lent.now.counters in
    let s0 = c.args.scratch.now in
    let cl = words c.args.lent.now.clauses.now in
    let at = words c.args.lent.now.atoms.now in
    let de = words c.args.lent.now.deferrals.now in
    let z = c.reset in
    let s1 = z.new.scratch in
    let e = z.ensures in
    let lz = z.auto.scratch in
    (reset_clausifying s0 s1 e lz k c.requires.0, reset_axiom s0 s1 e lz k c.args.i c.requires.1)

pub settle-requires : goal.settle-requires
settle-requires c =
    let k = c.args.lent.now.counters in
    let s0 = c.args.scratch.now in
    let cl = words c.args.lent.now.clauses.now in
    let at = words c.args.lent.now.atoms.now in
    let de = words c.args.lent.now.deferrals.now in
    let z = c.reset in
    let s1 = z.new.scratch in
    let e = z.ensures in
    let lz = z.auto.scratch in
    let r = c.clausify_axiom in
    let y = four_of (words r.new.scratch) r.new.lent in
    let D = c.in_ok-clausify_axiom.ensures.fact in
    let L = long_words (words s1) (words r.new.scratch) c.args.lent.now.clauses.now c.args.lent.now.atoms.now c.args.lent.now.deferrals.now _ _ _ r.ensures.references.3 r.ensures.references.4 r.ensures.references.5 in
    let n = reset_names s0 s1 e lz k c.requires.0 c.args.i c.requires.1 cl at de c.requires.3 in
    let W = reset_none s0 s1 e lz k c.requires.0 in
    let R = reset_for s0 s1 e lz k c.requires.0 c.args.i c.requires.1 cl at de c.requires.2 in
    (c.in_ok-clausify_axiom.ensures.clausifying_after, own_unsettled (axiom_at (words s1) c.args.i) k (four (words s1) cl at de) W y r.new.lent.counters 0 D n L R)

pub shape_of-scratch : goal.shape_of-scratch
shape_of-scratch c = c.settle.auto.scratch ∙ c.clausify_axiom.auto.scratch ∙ c.reset.auto.scratch

pub returns : goal.returns
returns c =
    let k = c.args.lent.now.counters in
    let s0 = c.args.scratch.now in
    let cl = words c.args.lent.now.clauses.now in
    let at = words c.args.lent.now.atoms.now in
    let de = words c.args.lent.now.deferrals.now in
    let z = c.reset in
    let s1 = z.new.scratch in
    let e = z.ensures in
    let lz = z.auto.scratch in
    let r = c.clausify_axiom in
    let y = four_of (words r.new.scratch) r.new.lent in
    let D = c.in_ok-clausify_axiom.ensures.fact in
    let L = long_words (words s1) (words r.new.scratch) c.args.lent.now.clauses.now c.args.lent.now.atoms.now c.args.lent.now.deferrals.now _ _ _ r.ensures.references.3 r.ensures.references.4 r.ensures.references.5 in
    let n = reset_names s0 s1 e lz k c.requires.0 c.args.i c.requires.1 cl at de c.requires.3 in
    let W = reset_none s0 s1 e lz k c.requires.0 in
    let t = c.settle in
    let R = r.ensures.references in
    let T = t.ensures.references in
    let y' = four_of (words t.new.scratch) t.new.lent in
    record {
      references = (T.0 ∙ R.0, T.1 ∙ R.1, T.2 ∙ R.2, T.3 ∙ R.3, T.4 ∙ R.4, T.5 ∙ R.5);
      fact = reset_limited s0 s1 e lz k c.requires.0 c.args.i c.requires.1 cl at de y' (done t.new.lent.counters t.result) (own_settled (axiom_at (words s1) c.args.i) k (four (words s1) cl at de) W y r.new.lent.counters 0 D n L y' (done t.new.lent.counters t.result) t.ensures.fact);
      clausifying_after = t.ensures.clausifying_after;
    }

pub returns-in_err-clausify_axiom-clause-fact : goal.returns-in_err-clausify_axiom-clause-fact
returns-in_err-clausify_axiom-clause-fact c =
    let p = err_from_is_err_and c.from_residual.result c.from_residual.ensures.1 in
    let k = c.args.lent.now.counters in
    let s0 = c.args.scratch.now in
    let cl = words c.args.lent.now.clauses.now in
    let at = words c.args.lent.now.atoms.now in
    let de = words c.args.lent.now.deferrals.now in
    let z = c.reset in
    let s1 = z.new.scratch in
    let e = z.ensures in
    let lz = z.auto.scratch in
    let r = c.clausify_axiom in
    let y = four_of (words r.new.scratch) r.new.lent in
    let D = c.in_err-clausify_axiom.ensures.fact in
    let W = reset_none s0 s1 e lz k c.requires.0 in
    rw (p.1, p.2) (reset_limited s0 s1 e lz k c.requires.0 c.args.i c.requires.1 cl at de y _ (own_stop (axiom_at (words s1) c.args.i) k (four (words s1) cl at de) W y _ D))
