use mathlib.Core.Path.{◌≡◌, subst}
use mathlib.Core.List.{List}
use Prim.Native.Nat.{ℕ, ◌+◌, ◌<◌}
use native.Mathlib.Omega.{arith}
use lib.Dec.{ltb}
use borrow.Author.Tests.{ltb-true, ltb-false}
use Rattle.words.specs.Words.{words}
use Rattle.meaning.specs.Truth.{by_truth}
use Rattle.states.specs.Conditions.{axiom_holds_at}
use Rattle.extents.specs.declared.Trial.{Trial}
use Rattle.ontology.specs.Rows.{row_axiom}
use Rattle.axiomtests.specs.Lines.{Behind}
use Rattle.axiomtests.proofs.PairLaws.{pair_here, pair_nowhere}
use Rattle.axiomtests.proofs.pairs.first_pair.Goals as goal

none_more : (v : List ℕ) (t : Trial) (kind at count x m : ℕ) → ((y : ℕ) → y < x → Behind v t kind at count y 0) → Behind v t kind at count x m → m ≡ 0 → (y : ℕ) → y < x + 1 → Behind v t kind at count y 0
none_more v t kind at count x m F B e y h = by_truth (ltb y x) (λ q. F y (ltb-true y x q)) (λ q. let l = ltb-false y x q in let z : x ≡ y = omega arith in subst (λ (k : ℕ). Behind v t kind at count k 0) z (subst (Behind v t kind at count x) e B))

pub loop-x-init : goal.loop-x-init
loop-x-init c = λ y h. absurd (omega arith)

pub pair_mask-m-requires : goal.pair_mask-m-requires
pair_mask-m-requires c = (c.requires.0, c.requires.1, c.loop-x-test.true)

pub returns-then-m-ne0 : goal.returns-then-m-ne0
returns-then-m-ne0 c =
    let X = c.loop-x in
    let h = c.loop-x-test.true in
    record {
      among = h;
      some = omega (arith, c.if-m-ne0.true);
      set = c.pair_mask-m.ensures;
      least = λ d I w L. pair_here I.size (axiom_holds_at I d.concepts (row_axiom (words c.args.scratch.now) c.args.line.kind c.args.line.at c.args.line.count)) X.x _ (omega (arith, L.fits.size)) (λ y l. X.invariant y l d I w L) (c.pair_mask-m.ensures d I w L) c.if-m-ne0.true;
    }

pub loop-x-preserved : goal.loop-x-preserved
loop-x-preserved c =
    let X = c.loop-x in
    none_more (words c.args.scratch.now) c.args.t c.args.line.kind c.args.line.at c.args.line.count X.x _ X.invariant c.pair_mask-m.ensures c.if-m-ne0.false

pub returns : goal.returns
returns c =
    λ d I w L. pair_nowhere I.size (axiom_holds_at I d.concepts (row_axiom (words c.args.scratch.now) c.args.line.kind c.args.line.at c.args.line.count)) (λ y l. c.loop-x.invariant y (omega (arith, L.fits.size)) d I w L)
