use mathlib.Core.Path.{refl}
use native.Mathlib.Omega.{arith}
use Rattle.rules.specs.Deck.{concept_of}
use Rattle.deck.proofs.NameLaws.{no_names, role_names, bound_names}
use Rattle.deck.proofs.names.concept_names.Goals as goal

pub returns-in-1 : goal.returns-in-1
returns-in-1 c = rw (no_names _ _ c.args.kind (omega arith) (omega arith) (λ e. omega arith) (λ e. omega arith) (λ e. omega arith)) refl

pub returns-in-3 : goal.returns-in-3
unfolding concept_of
returns-in-3 c = rw (c.in-3.is, ← c.below.ensures) refl

pub returns-in-4 : goal.returns-in-4
unfolding concept_of
returns-in-4 c = rw (c.in-4.is, ← c.below-in-4.ensures) refl

pub returns-in-5 : goal.returns-in-5
returns-in-5 c = rw (role_names _ _ c.args.kind (grind arith) (grind arith) (λ o. grind (arith, o)), ← c.role_below-in-5.ensures) refl

pub returns-in_default : goal.returns-in_default
returns-in_default c = rw (bound_names _ _ c.args.kind (λ o. grind (arith, o)), ← c.role_below.ensures) refl
