use mathlib.Core.Path.{◌≡◌, sym, ap, ◌∙◌}
use mathlib.Core.List.{◌∷◌}
use Prim.Native.Nat.{ℕ, ◌+◌, ◌≤◌}
use native.Mathlib.Omega.{arith}
use lib.ListN.{length, drop}
use Rattle.words.specs.Words.{words}
use Rattle.rules.specs.Deck.{axiom_line}
use Rattle.ontology.specs.Layout.{axiom_at}
use Rattle.states.specs.Conditions.{axiom_broken}
use Rattle.states.specs.Test.{broken, first_broken}
use Rattle.sets.specs.Verdicts.{shown}
use Rattle.extents.specs.Ready.{Ready, ConceptSets}
use Rattle.axiomtests.specs.Breaking.{least_in}
use Rattle.axiomtests.proofs.AsideLaws.{aside_refl, aside_trans}
use Rattle.axiomtests.proofs.ReadyLaws.{ready_aside, sets_aside, there_aside, axioms_next, broken_on, broken_here, broken_none}
use Rattle.axiomtests.proofs.axioms_verdict.Goals as goal

pub loop-i-init : goal.loop-i-init
loop-i-init c = (aside_refl _, λ d I R S F. let z : axiom_line d 0 ≡ axiom_line d 0 + 0 = omega arith in ap (λ (k : ℕ). first_broken (axiom_broken I d.concepts) k d.axioms) z)

pub axiom_broken-requires : goal.axiom_broken-requires
axiom_broken-requires c = let X = c.loop-i in (there_aside c.args.store.now c.args.scratch.now X.scratch c.args.t X.invariant.0 X.auto.scratch c.requires, c.loop-i-test.true)

pub overflow_add-at : goal.overflow_add-at
overflow_add-at c =
    let P = c.requires in
    let keys : length P.known.keys ≤ 65536 = omega (arith, P.ready.inside.size) in
    record { fits = omega (arith, c.loop-i-test.true, P.fits.line, P.fits.axioms, P.ready.inside.few_axioms, P.ready.inside.few_concepts) }

pub returns-in-Some : goal.returns-in-Some
returns-in-Some c =
    let X = c.loop-i in
    let w = words c.args.store.now in
    let u = words c.args.scratch.now in
    let before = words X.scratch in
    let v = words c.axiom_broken.new.scratch in
    λ d I R S F.
    let still : Ready d I w before = ready_aside d I w u before X.invariant.0 R in
    let sets : ConceptSets d I (length d.concepts) before = sets_aside d I w u before X.invariant.0 R S in
    let found : least_in v c.axiom_broken.result ≡ axiom_broken I d.concepts (axiom_at before X.i) = c.axiom_broken.ensures.result_after d I still sets F in
    let next : drop X.i d.axioms ≡ axiom_at before X.i ∷ drop (X.i + 1) d.axioms = axioms_next d I w before c.args.t X.i still sets F c.loop-i-test.true in
    let at : c.args.t.line + X.i ≡ axiom_line d 0 + X.i = omega (arith, F.line) in
    ap (λ (n : ℕ). broken n (shown v c.in-Some.shown)) at
    ∙ broken_here (axiom_broken I d.concepts) (axiom_line d 0 + X.i) (axiom_at before X.i) (drop X.i d.axioms) (drop (X.i + 1) d.axioms) (shown v c.in-Some.shown) next (ap (least_in v) (sym c.in-Some.is) ∙ found)
    ∙ sym (X.invariant.1 d I R S F)

pub loop-i-preserved : goal.loop-i-preserved
loop-i-preserved c =
    let X = c.loop-i in
    let w = words c.args.store.now in
    let u = words c.args.scratch.now in
    let before = words X.scratch in
    let v = words c.axiom_broken.new.scratch in (
      aside_trans u before v X.invariant.0 c.axiom_broken.ensures.aside,
      λ d I R S F.
          let still : Ready d I w before = ready_aside d I w u before X.invariant.0 R in
          let sets : ConceptSets d I (length d.concepts) before = sets_aside d I w u before X.invariant.0 R S in
          let found : least_in v c.axiom_broken.result ≡ axiom_broken I d.concepts (axiom_at before X.i) = c.axiom_broken.ensures.result_after d I still sets F in
          let next : drop X.i d.axioms ≡ axiom_at before X.i ∷ drop (X.i + 1) d.axioms = axioms_next d I w before c.args.t X.i still sets F c.loop-i-test.true in
          let at : axiom_line d 0 + (X.i + 1) ≡ axiom_line d 0 + X.i + 1 = omega arith in
          X.invariant.1 d I R S F
          ∙ broken_on (axiom_broken I d.concepts) (axiom_line d 0 + X.i) (axiom_line d 0 + (X.i + 1)) (axiom_at before X.i) (drop X.i d.axioms) (drop (X.i + 1) d.axioms) next at (ap (least_in v) (sym c.in_default.is) ∙ found),
    )

pub returns : goal.returns
returns c = let X = c.loop-i in λ d I R S F. broken_none (axiom_broken I d.concepts) (axiom_line d 0 + X.i) X.i d.axioms (omega (arith, c.loop-i-test.false, F.axioms)) ∙ sym (X.invariant.1 d I R S F)
