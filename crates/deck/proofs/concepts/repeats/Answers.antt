use native.Mathlib.Omega.{arith}
use mathlib.Core.Path.{sym, ap, ◌∙◌}
use Rattle.ir.specs.Records.{same_words}
use Rattle.deck.specs.Rows.{numbers}
use Rattle.deck.proofs.ConceptLaws.{search_first, search_in, search_yes, search_less, search_on, search_end}
use Rattle.deck.proofs.concepts.repeats.Goals as goal

pub head-next-requires : goal.head-next-requires
head-next-requires c = (c.hash.ensures.upper_bound, c.requires.room)

pub loop-next-init : goal.loop-next-init
loop-next-init c = search_first c.args.line.now.row c.args.t.now c.args.line.now.kind c.args.concepts c.args.line.now.is_line c.requires _ _ c.hash.ensures.value c.hash.ensures.upper_bound c.head-next.ensures

pub concept_row-requires : goal.concept_row-requires
concept_row-requires c = (c.requires, search_in c.args.line.now.row c.args.t.now c.args.line.now.kind c.args.concepts c.args.line.now.is_line c.requires c.in-Some.i (rw c.in-Some.is at c.loop-next.invariant))

pub returns-then-same_numbers : goal.returns-then-same_numbers
returns-then-same_numbers c =
    search_yes c.args.line.now.row c.args.t.now c.args.line.now.kind c.args.concepts c.args.line.now.is_line c.requires c.in-Some.i (rw c.in-Some.is at c.loop-next.invariant)
    (sym (ap (same_words (numbers c.args.line.now.row)) c.concept_row.ensures) ∙ sym c.same_numbers.ensures ∙ c.if-same_numbers.true)

pub link-next-requires : goal.link-next-requires
link-next-requires c =
    let l = search_in c.args.line.now.row c.args.t.now c.args.line.now.kind c.args.concepts c.args.line.now.is_line c.requires c.in-Some.i (rw c.in-Some.is at c.loop-next.invariant) in
    (omega (arith, c.requires.few), c.requires.room)

pub loop-next-smaller : goal.loop-next-smaller
loop-next-smaller c =
    rw c.in-Some.is (search_less c.args.line.now.row c.args.t.now c.args.line.now.kind c.args.concepts c.args.line.now.is_line c.requires c.in-Some.i (rw c.in-Some.is at c.loop-next.invariant) c.link-next.result c.link-next.ensures)

pub loop-next-preserved : goal.loop-next-preserved
loop-next-preserved c =
    search_on c.args.line.now.row c.args.t.now c.args.line.now.kind c.args.concepts c.args.line.now.is_line c.requires c.in-Some.i (rw c.in-Some.is at c.loop-next.invariant) c.link-next.result c.link-next.ensures
    (sym (ap (same_words (numbers c.args.line.now.row)) c.concept_row.ensures) ∙ sym c.same_numbers.ensures ∙ c.if-same_numbers.false)

pub returns : goal.returns
returns c = search_end c.args.line.now.row c.args.t.now c.args.line.now.kind c.args.concepts c.args.line.now.is_line c.requires (rw c.in_default.is at c.loop-next.invariant)
