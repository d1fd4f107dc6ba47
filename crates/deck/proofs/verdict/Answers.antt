use Rattle.std.proofs.Common.{◌≡◌, refl, rules, ne_eqb, Some}
use Rattle.std.proofs.lemmas.Result.{err_from_is_err_and}
use Rattle.ir.specs.Refusals.{refusal_number}
use Rattle.deck.specs.Records.{known_in}
use Rattle.deck.specs.declared.state.Section.TheVariants.{Concepts}
use Rattle.deck.proofs.ConceptLaws.{counted_known}
use Rattle.deck.proofs.KindLaws.{no_concepts}
use Rattle.deck.proofs.LineLaws.{refusal_some}
use Rattle.deck.proofs.verdict.Goals as goal

pub concept-requires : goal.concept-requires
concept-requires c =
    let e : c.section_of.result ≡ Some Concepts = search rules in
    (record { within = search rules; kind = c.entry-kind.ensures; section = rw (← c.section_of.ensures, e) refl; fields = rw c.entry-kind.ensures (c.in_ok-line_verdict.ensures.fields refl) }, c.requires.concepts)

pub returns-in_err-line_verdict : goal.returns-in_err-line_verdict
returns-in_err-line_verdict c =
    let s = c.args.row.now.deck.now in
    let t = c.args.t.now in
    let p = err_from_is_err_and c.from_residual.result c.from_residual.ensures.1 in
    let r = c.in_err-line_verdict.field-0.0 in
    rw (p.1, p.2, c.in_err-line_verdict.ensures.fact (known_in s t c.args.st) refl (counted_known s t c.args.st), ne_eqb (refusal_number r) 0 (refusal_some r)) refl

pub returns-then-eq : goal.returns-then-eq
returns-then-eq c =
    let s = c.args.row.now.deck.now in
    let t = c.args.t.now in
    let e : c.section_of.result ≡ Some Concepts = search rules in
    rw (c.in_ok-line_verdict.ensures.fact (known_in s t c.args.st) refl (counted_known s t c.args.st), ← c.entry-kind.ensures, ← c.section_of.ensures, e) c.concept.ensures

pub returns-else-eq : goal.returns-else-eq
returns-else-eq c =
    let s = c.args.row.now.deck.now in
    let t = c.args.t.now in
    let e : c.section_of.result ≡ Some Concepts → ⊥ = search rules in
    rw (c.in_ok-line_verdict.ensures.fact (known_in s t c.args.st) refl (counted_known s t c.args.st), ← c.entry-kind.ensures, ← c.section_of.ensures, no_concepts c.section_of.result e) refl
