use Rattle.std.proofs.Common.{refl, sym, ◌∙◌}
use Rattle.std.proofs.lemmas.Bool.{and_parts}
use Rattle.rules.specs.Deck.{section_of, in_order, fields_ok, verdict}
use Rattle.text.specs.RowLaws.{length_row}
use Rattle.deck.proofs.line_verdict.Goals as goal

pub returns-then-not-shape-clause-fact : goal.returns-then-not-shape-clause-fact
unfolding verdict
returns-then-not-shape-clause-fact c =
    let r = c.args.row.now in
    λ d e K. rw (length_row r.deck.now r.line.begin r.line.fields, ← c.entry-kind.ensures, ← e, ← c.number.ensures, ← c.shape.ensures, c.if-not-shape.true) refl

pub returns-then-not-limits-clause-fact : goal.returns-then-not-limits-clause-fact
unfolding verdict
returns-then-not-limits-clause-fact c =
    let r = c.args.row.now in
    λ d e K. rw (length_row r.deck.now r.line.begin r.line.fields, ← c.entry-kind.ensures, ← e, ← c.number.ensures, ← c.shape.ensures, c.if-not-shape.false, ← c.limits.ensures d K, c.if-not-limits.true) refl

pub returns-then-not-names-clause-fact : goal.returns-then-not-names-clause-fact
unfolding verdict
returns-then-not-names-clause-fact c =
    let r = c.args.row.now in
    λ d e K. rw (length_row r.deck.now r.line.begin r.line.fields, ← c.entry-kind.ensures, ← e, ← c.number.ensures, ← c.shape.ensures, c.if-not-shape.false, ← c.limits.ensures d K, c.if-not-limits.false, ← c.names.ensures d K, c.if-not-names.true) refl

pub returns-clause-fact : goal.returns-clause-fact
unfolding verdict
returns-clause-fact c =
    let r = c.args.row.now in
    λ d e K. rw (length_row r.deck.now r.line.begin r.line.fields, ← c.entry-kind.ensures, ← e, ← c.number.ensures, ← c.shape.ensures, c.if-not-shape.false, ← c.limits.ensures d K, c.if-not-limits.false, ← c.names.ensures d K, c.if-not-names.false) refl

pub returns-clause-fields : goal.returns-clause-fields
returns-clause-fields c =
    let r = c.args.row.now in
    let k = c.entry-kind.result in
    λ z. rw (← c.entry-kind.ensures) (and_parts (in_order c.number.result (section_of k)) (fields_ok k r.line.fields) (sym c.shape.ensures ∙ c.if-not-shape.false)).1
