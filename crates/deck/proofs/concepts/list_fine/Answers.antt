use mathlib.Core.Path.{sym, subst, ◌∙◌}
use mathlib.Core.Logic.{⊎_elim, inl, inr}
use Prim.Native.Nat.{ℕ, ◌<◌}
use lib.ListN.{drop}
use Rattle.words.specs.Words.{words}
use Rattle.rules.specs.Invariants.{Each}
use Rattle.deck.specs.Records.{concepts_in, IsList}
use Rattle.deck.specs.Rows.{numbers}
use Rattle.deck.proofs.ConceptLaws.{list_members, no_members, list_first}
use Rattle.deck.proofs.concepts.list_fine.Goals as goal

pub members_fine-requires : goal.members_fine-requires
members_fine-requires c =
    let i : IsList c.args.line.now.kind = ⊎_elim inl (λ e. inr e.1) c.if-kind-eq8.either in
    (c.requires.0, subst (λ (k : ℕ). Each (λ x. x < c.args.concepts) (drop k (numbers c.args.line.now.row))) (list_first c.args.line.now.kind i) c.requires.1, i)

pub returns-then-kind-eq8 : goal.returns-then-kind-eq8
returns-then-kind-eq8 c =
    let i : IsList c.args.line.now.kind = ⊎_elim inl (λ e. inr e.1) c.if-kind-eq8.either in
    c.members_fine.ensures ∙ sym (list_members c.args.line.now.row c.args.line.now.kind c.args.line.now.is_line (concepts_in c.args.line.now.row.deck.now (words c.args.t.now) c.args.concepts) i)

pub returns-else-kind-eq8 : goal.returns-else-kind-eq8
returns-else-kind-eq8 c = sym (no_members c.args.line.now.row c.args.line.now.kind c.args.line.now.is_line (concepts_in c.args.line.now.row.deck.now (words c.args.t.now) c.args.concepts) c.if-kind-eq8.false.0 c.if-kind-eq8.false.1)
