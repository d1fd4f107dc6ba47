use native.Mathlib.Omega.{arith}
use Rattle.words.specs.Words.{words}
use Rattle.pool.specs.Layout.{pool_of}
use Rattle.normalforms.specs.Forms.{concepts_text}
use Rattle.normalforms.proofs.LineLaws.{concepts_all, concept_fits, concept_more, concepts_end}
use Rattle.normalforms.proofs.lines.put_concepts.Goals as goal

pub loop-c-init : goal.loop-c-init
loop-c-init c =
    let a = c.args in
    concepts_all (words a.scratch.now) a.k.concepts a.out.now a.at

pub put_concept-p-requires : goal.put_concept-p-requires
put_concept-p-requires c =
    let l = c.loop-c in
    let t = c.loop-c-test.true in
    (c.requires.0, t, concept_fits (words c.args.scratch.now) l.c c.args.k.concepts c.args.out.now c.args.at (concepts_text (pool_of (words c.args.scratch.now) c.args.k.concepts)) l.out l.p t l.invariant c.requires.1)

pub loop-c-preserved : goal.loop-c-preserved
loop-c-preserved c =
    let l = c.loop-c in
    let t = c.loop-c-test.true in
    let q = c.put_concept-p in
    concept_more (words c.args.scratch.now) l.c c.args.k.concepts c.args.out.now c.args.at (concepts_text (pool_of (words c.args.scratch.now) c.args.k.concepts)) l.out l.p _ q.result t l.invariant q.ensures

pub returns : goal.returns
returns c =
    let l = c.loop-c in
    concepts_end (words c.args.scratch.now) l.c c.args.k.concepts c.args.out.now c.args.at (concepts_text (pool_of (words c.args.scratch.now) c.args.k.concepts)) l.out l.p (omega arith) l.invariant
