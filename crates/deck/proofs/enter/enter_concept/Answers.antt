use native.Mathlib.Omega.{arith}
use mathlib.Core.Path.{refl, sym, ap, ◌∙◌}
use Prim.Native.Nat.{ℕ, ◌+◌}
use lib.ListN.{get_or}
use Rattle.rules.specs.Deck.{section_of}
use Rattle.deck.specs.Rows.{numbers}
use Rattle.deck.proofs.ConceptLaws.{line_parts}
use Rattle.deck.proofs.EnterLaws.{few_concepts_lem, entering_line, entering_parts, enter_concept_law}
use Rattle.deck.proofs.enter.enter_concept.Goals as goal

pub deepest_of-depth-requires : goal.deepest_of-depth-requires
deepest_of-depth-requires c =
    let r = c.args.row.now in
    (c.requires.0.held.concepts, rw (c.first_part.ensures, c.requires.1) (entering_parts r.deck.now c.args.t.now r.line.begin r.line.fields c.args.st c.requires.0 (ap section_of (sym c.requires.1) ∙ c.requires.2)))

pub put_concept-requires : goal.put_concept-requires
put_concept-requires c =
    let r = c.args.row.now in
    let few = few_concepts_lem r.deck.now c.args.t.now r.line.begin r.line.fields c.args.st c.requires.0 (ap section_of (sym c.requires.1) ∙ c.requires.2) in
    (omega (arith, c.requires.0.held.concepts.room), omega (arith, c.requires.0.held.small, c.requires.0.line), omega (arith, c.requires.0.held.small, c.requires.0.line), omega (arith, c.deepest_of-depth.ensures.upper_bound))

pub remember-requires : goal.remember-requires
remember-requires c =
    let r = c.args.row.now in
    (few_concepts_lem r.deck.now c.args.t.now r.line.begin r.line.fields c.args.st c.requires.0 (ap section_of (sym c.requires.1) ∙ c.requires.2), c.hash.ensures.upper_bound, rw c.put_concept.auto.t c.requires.0.held.concepts.room)

pub returns : goal.returns
returns c =
    let r = c.args.row.now in
    enter_concept_law r.deck.now c.args.t.now c.remember.new.t r.line.begin r.line.fields c.args.st c.requires.0 (c.remember.auto.t ∙ c.put_concept.auto.t) (ap section_of (sym c.requires.1) ∙ c.requires.2) _ c.hash.result c.hash.ensures.value c.hash.ensures.upper_bound
    (c.remember.ensures ∙ rw c.put_concept.ensures refl)
    (ap (λ (i : ℕ). i + 1) (c.deepest_of-depth.ensures.value ∙ rw (line_parts r.deck.now r.line.begin r.line.fields (get_or (numbers r) 0 0) (entering_line r.deck.now c.args.t.now r.line.begin r.line.fields c.args.st c.requires.0 (ap section_of (sym c.requires.1) ∙ c.requires.2)), c.first_part.ensures, c.requires.1) refl))
