use Rattle.std.proofs.Common.{rules, arith, refl, sym, ap, ◌≡◌, ◌∙◌, get_or, Some}
use Rattle.rules.specs.Deck.{section_of}
use Rattle.text.specs.Rows.{row_at}
use Rattle.deck.specs.declared.state.Section.TheVariants.{Axioms}
use Rattle.deck.specs.Records.{section_number, verdict_number, known_in}
use Rattle.deck.proofs.ConceptLaws.{counted_known}
use Rattle.session.specs.AppendLaws.{text_more, text_other, text_line, behind_axiom, axioms_section}
use Rattle.session.proofs.append.text_verdict.Goals as goal
use Rattle.session.proofs.append.text_verdict.Goals.{then-behind-text-via-then-behind-text, then-behind-text-via-else-behind-text+then-ne}

pub returns-then-behind-text : goal.returns-then-behind-text
returns-then-behind-text c =
    let u = c.args.text.now in
    let n = c.in-Some.fields in
    λ s t. elim c.then-behind-text.branch [
      | then-behind-text-via-then-behind-text w ↦
          text_more (known_in s t c.args.st) u n (omega (arith, c.in-Some.ensures.result_in_bounds.1)) (omega (arith, c.in-Some.ensures.result_in_bounds.0)) c.in-Some.ensures.result_value c.behind.result c.behind.ensures w.if-behind-text.true
      | then-behind-text-via-else-behind-text+then-ne w ↦
          let other : w.section_of.result ≡ Some Axioms → ⊥ = search rules in
          text_other (known_in s t c.args.st) u n (omega (arith, c.in-Some.ensures.result_in_bounds.1)) (omega (arith, c.in-Some.ensures.result_in_bounds.0)) c.in-Some.ensures.result_value
          (λ e. other (axioms_section w.section_of.result (w.section_of.ensures ∙ ap section_of w.entry.ensures ∙ e)))
    ]

pub returns : goal.returns
returns c =
    let u = c.args.text.now in
    let n = c.in-Some.fields in
    let it : c.section_of.result ≡ Some Axioms = search rules in
    let r = row_at u 0 n in
    let four : section_of (get_or r 0 0) ≡ 4 = sym (c.section_of.ensures ∙ ap section_of c.entry.ensures) ∙ ap section_number it in
    λ s t.
    let d = known_in s t c.args.st in
    sym (c.line_verdict.ensures.fact d refl (counted_known s t c.args.st) ∙ behind_axiom d (get_or r 0 0) r (verdict_number c.line_verdict.result) four)
    ∙ text_line d u n (omega (arith, c.in-Some.ensures.result_in_bounds.1)) (omega (arith, c.in-Some.ensures.result_in_bounds.0)) c.in-Some.ensures.result_value (omega (arith, c.behind.ensures, c.if-behind-text.false)) four
