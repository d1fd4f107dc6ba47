use mathlib.Core.Path.{refl, sym, ◌∙◌}
use Rattle.rules.specs.Deck.{concept_verdict}
use Rattle.deck.proofs.ConceptLaws.{nest_each}
use Rattle.deck.proofs.concepts.concept.Goals as goal

pub returns-then-not-nested : goal.returns-then-not-nested
unfolding concept_verdict
returns-then-not-nested c = rw (← c.nested.ensures, c.if-not-nested.true) refl

pub list_fine-requires : goal.list_fine-requires
list_fine-requires c =
    let r = c.args.row.now in
    (c.requires.1, nest_each r.deck.now c.args.t.now c.args.st r.line.begin r.line.fields c.args.kind c.requires.0 (sym c.nested.ensures ∙ c.if-not-nested.false))

pub returns-then-not-list_fine : goal.returns-then-not-list_fine
unfolding concept_verdict
returns-then-not-list_fine c = rw (← c.nested.ensures, c.if-not-nested.false, ← c.list_fine.ensures, c.if-not-list_fine.true) refl

pub returns-then-repeats : goal.returns-then-repeats
unfolding concept_verdict
returns-then-repeats c = rw (← c.nested.ensures, c.if-not-nested.false, ← c.list_fine.ensures, c.if-not-list_fine.false, ← c.repeats.ensures, c.if-repeats.true) refl

pub returns-then-not-bound_fine : goal.returns-then-not-bound_fine
unfolding concept_verdict
returns-then-not-bound_fine c = rw (← c.nested.ensures, c.if-not-nested.false, ← c.list_fine.ensures, c.if-not-list_fine.false, ← c.repeats.ensures, c.if-repeats.false, ← c.bound_fine.ensures, c.if-not-bound_fine.true) refl

pub returns : goal.returns
unfolding concept_verdict
returns c = rw (← c.nested.ensures, c.if-not-nested.false, ← c.list_fine.ensures, c.if-not-list_fine.false, ← c.repeats.ensures, c.if-repeats.false, ← c.bound_fine.ensures, c.if-not-bound_fine.false) refl
