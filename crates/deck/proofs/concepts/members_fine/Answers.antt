use borrow.Author.Tests.{lt-leb}
use mathlib.Core.Bool.{true, false, true≢false}
use mathlib.Core.Path.{◌≡◌, refl, sym, ◌∙◌}
use Rattle.deck.proofs.ConceptLaws.{two_members, few_members}
use Rattle.deck.proofs.concepts.members_fine.Goals as goal
use Rattle.deck.proofs.concepts.members_fine.Goals.{then-row-ge3, else-row-ge3}

pub returns-then-rises : goal.returns-then-rises
returns-then-rises c = elim c.if-row-ge3.branch [
  | then-row-ge3 w ↦ let r : w.rises.result ≡ true = sym w.value-is ∙ c.if-rises.true in rw (two_members c.args.row.now w.if-row-ge3.true, ← w.rises.ensures, r, ← c.all_fit.ensures) refl
  | else-row-ge3 w ↦ absurd (true≢false (sym c.if-rises.true ∙ w.value-is ∙ lt-leb _ _ w.if-row-ge3.false))
]

pub returns-else-rises : goal.returns-else-rises
returns-else-rises c = elim c.if-row-ge3.branch [
  | then-row-ge3 w ↦ let r : w.rises.result ≡ false = sym w.value-is ∙ c.if-rises.false in rw (c.if-rises.false, two_members c.args.row.now w.if-row-ge3.true, ← w.rises.ensures, r) refl
  | else-row-ge3 w ↦ rw (c.if-rises.false, few_members c.args.row.now w.if-row-ge3.false) refl
]
