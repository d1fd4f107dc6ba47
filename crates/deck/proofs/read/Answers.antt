use borrow.Author.Tests.{lt-ltb, le-ltb}
use native.Mathlib.Omega.{arith}
use mathlib.Core.Path.{refl, ◌∙◌}
use Rattle.rules.specs.Deck.{read_deck}
use Rattle.deck.proofs.LineLaws.{fresh_table}
use Rattle.deck.proofs.read.Goals as goal

pub returns-then-deck-gt65536 : goal.returns-then-deck-gt65536
unfolding read_deck
returns-then-deck-gt65536 c = record { result_after = rw (lt-ltb _ _ c.if-deck-gt65536.true, c.from.ensures) refl; kept = tt }

pub clear_words-requires : goal.clear_words-requires
clear_words-requires c = omega (arith, c.requires)

pub read_lines-requires : goal.read_lines-requires
read_lines-requires c = (c.if-deck-gt65536.false, fresh_table c.args.t.now c.clear_words.new.s c.requires c.clear_words.auto.s c.clear_words.ensures)

pub shape_of-t : goal.shape_of-t
shape_of-t c = c.read_lines.auto.t ∙ c.clear_words.auto.s

pub returns : goal.returns
unfolding read_deck
returns c = record {
  result_after = rw (le-ltb _ _ c.if-deck-gt65536.false) c.read_lines.ensures.result_after;
  kept = c.read_lines.ensures.kept;
}
