use mathlib.Core.Path.{refl, sym, subst}
use lib.ListN.{get_or-eq_default}
use Rattle.std.specs.declared.option.Option.TheVariants.{None}
use Rattle.deck.specs.Kinds.{Says}
use Rattle.deck.specs.declared.kinds.TheConstants.{KINDS}
use Rattle.deck.proofs.KindLaws.{says}
use Rattle.deck.proofs.kinds.kind_of.Goals as goal

pub returns-in_err-get : goal.returns-in_err-get
returns-in_err-get c = rw c.from_residual.ensures (subst (λ o. Says o c.args.number) (get_or-eq_default KINDS None c.in_err-get.ensures.lookup.3) (says KINDS c.args.number refl refl refl refl))

pub returns : goal.returns
returns c = subst (λ o. Says o c.args.number) (sym (c.in_ok-get.ensures.lookup.3.1 None)) (says KINDS c.args.number refl refl refl refl)
