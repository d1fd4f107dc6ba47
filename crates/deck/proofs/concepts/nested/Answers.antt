use borrow.Author.Tests.{ltb-true}
use mathlib.Core.Path.{refl, sym, ◌∙◌}
use Prim.Native.Nat.{◌<◌}
use lib.ListN.{drop}
use lib.Dec.{ltb}
use Rattle.rules.specs.DeckLaws.{all_each}
use Rattle.deck.specs.Rows.{numbers}
use Rattle.deck.specs.TabLaws.{length_tab}
use Rattle.deck.proofs.ConceptLaws.{line_parts}
use Rattle.deck.proofs.concepts.nested.Goals as goal

pub deepest_of-requires : goal.deepest_of-requires
deepest_of-requires c = (c.requires, all_each (λ x. ltb x c.args.st.concepts) (λ x. x < c.args.st.concepts) (λ x q. ltb-true x c.args.st.concepts q) (drop c.first_part-from.result (numbers c.args.line.now.row)) (sym c.all_below.ensures ∙ c.if-all_below.true))

pub returns-then-all_below : goal.returns-then-all_below
returns-then-all_below c =
    let r = c.args.line.now.row in
    rw (length_tab, line_parts r.deck.now r.line.begin r.line.fields c.args.line.now.kind c.args.line.now.is_line, ← c.first_part-from.ensures, ← c.all_below.ensures, c.if-all_below.true, ← c.deepest_of.ensures.value) refl

pub returns-else-all_below : goal.returns-else-all_below
returns-else-all_below c =
    let r = c.args.line.now.row in
    rw (length_tab, line_parts r.deck.now r.line.begin r.line.fields c.args.line.now.kind c.args.line.now.is_line, ← c.first_part-from.ensures, ← c.all_below.ensures, c.if-all_below.false) refl
