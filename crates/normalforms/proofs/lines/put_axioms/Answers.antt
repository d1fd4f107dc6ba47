use native.Mathlib.Omega.{arith}
use Rattle.words.specs.Words.{words}
use Rattle.ontology.specs.Layout.{axioms_of}
use Rattle.normalforms.specs.Forms.{axioms_text}
use Rattle.normalforms.proofs.LineLaws.{axioms_all, axiom_fits, axiom_more, axioms_end}
use Rattle.normalforms.proofs.lines.put_axioms.Goals as goal

pub loop-i-init : goal.loop-i-init
loop-i-init c =
    let a = c.args in
    axioms_all (words a.scratch.now) a.n a.out.now a.at

pub put_axiom-p-requires : goal.put_axiom-p-requires
put_axiom-p-requires c =
    let l = c.loop-i in
    let t = c.loop-i-test.true in
    (c.requires.0, t, c.requires.1, axiom_fits (words c.args.scratch.now) l.i c.args.n c.args.out.now c.args.at (axioms_text (axioms_of (words c.args.scratch.now) c.args.n)) l.out l.p c.requires.0 t l.invariant c.requires.2)

pub loop-i-preserved : goal.loop-i-preserved
loop-i-preserved c =
    let l = c.loop-i in
    let t = c.loop-i-test.true in
    let q = c.put_axiom-p in
    axiom_more (words c.args.scratch.now) l.i c.args.n c.args.out.now c.args.at (axioms_text (axioms_of (words c.args.scratch.now) c.args.n)) l.out l.p _ q.result c.requires.0 t l.invariant q.ensures

pub returns : goal.returns
returns c =
    let l = c.loop-i in
    axioms_end (words c.args.scratch.now) l.i c.args.n c.args.out.now c.args.at (axioms_text (axioms_of (words c.args.scratch.now) c.args.n)) l.out l.p (omega arith) l.invariant
