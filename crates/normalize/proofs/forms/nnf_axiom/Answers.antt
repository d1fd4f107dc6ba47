use native.Mathlib.Omega.{arith}
use Prim.Native.Nat.{suc}
use Rattle.words.specs.Words.{words}
use Rattle.ir.specs.Answer.{done}
use Rattle.normalize.specs.AxiomLaws.{run_asks, axiom_did, concepts_at_lem, concepts_count}
use Rattle.normalize.proofs.forms.nnf_axiom.Goals as goal

pub normal_each-requires : goal.normal_each-requires
normal_each-requires c =
    let w = words c.args.scratch.now in
    let k = c.number-kind.ensures in
    let at = concepts_at_lem w c.args.i _ _ _ k c.first_concept-first.ensures c.start.ensures in
    let count = concepts_count w c.args.i _ _ _ k c.count.ensures c.concept_count-count.ensures in
    (run_asks c.args.scratch.now c.args.k.now c.args.n c.args.i c.requires.0 c.requires.1 _ _ at count, c.requires.2)

pub returns : goal.returns
returns c =
    let w = words c.args.scratch.now in
    let k = c.number-kind.ensures in
    let at = concepts_at_lem w c.args.i _ _ _ k c.first_concept-first.ensures c.start.ensures in
    let count = concepts_count w c.args.i _ _ _ k c.count.ensures c.concept_count-count.ensures in
    let E = c.normal_each.ensures in
    let did = axiom_did c.args.scratch.now c.args.k.now c.args.n c.args.i c.requires.0 c.requires.1 _ _ at count (done c.normal_each.new.k c.normal_each.result) _ (E.by_index suc (λ x l. omega arith)) E.held_run E.kept E.known_after in
    record { scratch_after = did.0; held_run = did.1.0; kept = did.1.1.0; known_after = did.1.1.1 }
