use native.Mathlib.Omega.{arith}
use mathlib.Core.Path.{◌≡◌, refl, subst, ◌∙◌}
use Prim.Native.Nat.{ℕ}
use Rattle.words.specs.Words.{words}
use Rattle.ir.specs.Scratch.{stack_at}
use Rattle.pool.specs.Layout.{pool_words}
use Rattle.ontology.specs.Lines.{table_of, Pooled}
use Rattle.ontology.proofs.TableLaws.{table_kept}
use Rattle.ontology.proofs.PoolLaws.{pooled_here, pooled_next}
use Rattle.ontology.proofs.concepts.load_concepts.Goals as goal

pub loop-i-init : goal.loop-i-init
loop-i-init c = (refl, c.requires.2)

pub load_concept-requires : goal.load_concept-requires
load_concept-requires c =
    let l = c.loop-i in
    let q = table_kept pool_words stack_at (words c.args.scratch.now) (words l.scratch) (omega arith) (omega arith) l.invariant.1.kept in
    (omega (arith, c.requires.0, l.invariant.0), rw q (c.requires.1 l.i c.loop-i-test.true), pooled_here c.args.deck.now (table_of (words c.args.scratch.now)) c.args.k.now l.i (words c.args.scratch.now) (words l.scratch) l.k l.invariant.1 q)

pub loop-i-preserved : goal.loop-i-preserved
loop-i-preserved c =
    let l = c.loop-i in
    let n = c.load_concept in
    let q = table_kept pool_words stack_at (words c.args.scratch.now) (words l.scratch) (omega arith) (omega arith) l.invariant.1.kept in
    (n.auto.scratch ∙ l.invariant.0, pooled_next c.args.deck.now (table_of (words c.args.scratch.now)) c.args.k.now l.i (words c.args.scratch.now) (words l.scratch) l.k l.invariant.1 q (words n.new.scratch) n.new.k n.ensures)

pub shape_of-scratch : goal.shape_of-scratch
shape_of-scratch c = c.loop-i.invariant.0

pub returns : goal.returns
returns c =
    let l = c.loop-i in
    let e : l.i ≡ c.args.concepts = omega (arith, c.loop-i.auto.i-end, c.loop-i-test.false) in
    subst (λ (j : ℕ). Pooled c.args.deck.now (table_of (words c.args.scratch.now)) c.args.k.now j (words c.args.scratch.now) (words l.scratch) l.k) e l.invariant.1
