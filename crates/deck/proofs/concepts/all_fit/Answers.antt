use mathlib.Core.Path.{sym, ap, ◌∙◌}
use Prim.Native.Nat.{◌<◌}
use Rattle.words.specs.Words.{words}
use Rattle.rules.specs.Deck.{member_of}
use Rattle.rules.specs.EachLaws.{each_map}
use Rattle.rules.specs.Pool.{at}
use Rattle.deck.specs.Records.{under, concepts_in}
use Rattle.deck.proofs.ConceptLaws.{member_in}
use Rattle.deck.proofs.concepts.all_fit.Goals as goal

pub all-requires : goal.all-requires
all-requires c = each_map (λ x. x < c.args.concepts) _ (λ x h. (c.requires.2, c.requires.0, h)) _ c.requires.1

pub returns : goal.returns
returns c = c.all.ensures (λ x. under c.args.kind (member_of (at (concepts_in c.args.row.now.deck.now (words c.args.t.now) c.args.concepts) x)))
    (λ x b l p t. t ∙ ap (under c.args.kind) (sym (member_in c.args.row.now.deck.now c.args.t.now c.args.concepts c.requires.0 x p.2)))
