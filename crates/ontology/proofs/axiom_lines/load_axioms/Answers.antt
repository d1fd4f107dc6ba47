use native.Mathlib.Omega.{arith}
use mathlib.Core.Path.{◌≡◌, refl, subst, ◌∙◌}
use Prim.Native.Nat.{ℕ}
use Rattle.words.specs.Words.{words}
use Rattle.words.specs.Laws.{length_words}
use Rattle.ir.specs.Scratch.{lines_at, stack_at}
use Rattle.ontology.specs.Lines.{table_of}
use Rattle.ontology.proofs.TableLaws.{table_kept}
use Rattle.ontology.proofs.AxiomLaws.{Storing, storing_first, storing_fits, storing_next, axioms_held, axioms_are}
use Rattle.ontology.proofs.axiom_lines.load_axioms.Goals as goal

pub loop-i-init : goal.loop-i-init
loop-i-init c = (refl, storing_first c.args.deck.now (table_of (words c.args.scratch.now)) (words c.args.scratch.now))

pub load_axiom-at-requires : goal.load_axiom-at-requires
load_axiom-at-requires c =
    let l = c.loop-i in
    let v = table_of (words c.args.scratch.now) in
    let q = table_kept lines_at stack_at (words c.args.scratch.now) (words l.scratch) (omega arith) (omega arith) l.invariant.1.behind in
    (omega (arith, c.requires.0, l.invariant.0), rw q (c.requires.1 l.i c.loop-i-test.true), rw q (storing_fits c.args.deck.now v c.args.axioms l.i l.at c.loop-i-test.true l.invariant.1.place c.requires.2))

pub loop-i-preserved : goal.loop-i-preserved
loop-i-preserved c =
    let l = c.loop-i in
    let n = c.load_axiom-at in
    let v = table_of (words c.args.scratch.now) in
    let q = table_kept lines_at stack_at (words c.args.scratch.now) (words l.scratch) (omega arith) (omega arith) l.invariant.1.behind in (
      n.auto.scratch ∙ l.invariant.0,
      storing_next c.args.deck.now v (words c.args.scratch.now) l.i l.at (words l.scratch) l.invariant.1 (c.requires.1 l.i c.loop-i-test.true).few (rw (length_words c.args.scratch.now) (omega (arith, c.requires.0)))
          (storing_fits c.args.deck.now v c.args.axioms l.i l.at c.loop-i-test.true l.invariant.1.place c.requires.2) n.result (words n.new.scratch) (rw q at n.ensures.value) (rw q at n.ensures.scratch_after),
    )

pub shape_of-scratch : goal.shape_of-scratch
shape_of-scratch c = c.loop-i.invariant.0

pub returns : goal.returns
returns c =
    let l = c.loop-i in
    let v = table_of (words c.args.scratch.now) in
    let e : l.i ≡ c.args.axioms = omega (arith, c.loop-i.auto.i-end, c.loop-i-test.false) in
    let S = subst (λ (j : ℕ). Storing c.args.deck.now v (words c.args.scratch.now) j l.at (words l.scratch)) e l.invariant.1 in record {
      axioms_held = axioms_held c.args.deck.now v (words c.args.scratch.now) c.args.axioms l.at (words l.scratch) S c.requires.1 c.requires.2;
      axioms_after = axioms_are c.args.deck.now v (words c.args.scratch.now) c.args.axioms l.at (words l.scratch) S c.requires.1 c.requires.2;
      kept = S.before;
    }
