use mathlib.Core.Path.{sym, ap, subst, ◌∙◌}
use Rattle.rules.specs.Deck.{section_of}
use Rattle.deck.specs.Records.{RowEntered, section_code}
use Rattle.deck.proofs.EnterLaws.{section_some, enter_header_law, enter_key_law}
use Rattle.deck.proofs.enter.enter.Goals as goal

pub returns-in-Some-Header : goal.returns-in-Some-Header
returns-in-Some-Header c =
    let r = c.args.row.now in
    subst (RowEntered r c.args.t.now c.args.t.now c.args.st) (sym c.enter_header.ensures)
    (enter_header_law r.deck.now c.args.t.now r.line.begin r.line.fields c.args.st c.requires (ap section_of (sym c.entry-kind.ensures) ∙ sym c.in-Some-Header.ensures ∙ ap section_code c.in-Some-Header.field-0-is))

pub returns-in-Some-Keys : goal.returns-in-Some-Keys
returns-in-Some-Keys c =
    let r = c.args.row.now in
    subst (RowEntered r c.args.t.now c.args.t.now c.args.st) (sym c.enter_key.ensures)
    (enter_key_law r.deck.now c.args.t.now r.line.begin r.line.fields c.args.st c.requires (ap section_of (sym c.entry-kind.ensures) ∙ sym c.in-Some-Keys.ensures ∙ ap section_code c.in-Some-Keys.field-0-is))

pub unreachable-requires : goal.unreachable-requires
unreachable-requires c =
    let r = c.args.row.now in
    section_some r.deck.now c.args.t.now r.line.begin r.line.fields c.args.st c.requires (ap section_of (sym c.entry-kind.ensures) ∙ sym c.in-None.ensures)
