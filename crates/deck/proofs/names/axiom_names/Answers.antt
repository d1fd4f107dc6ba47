use mathlib.Core.Path.{refl}
use native.Mathlib.Omega.{arith}
use Rattle.rules.specs.Deck.{axiom_of}
use Rattle.deck.proofs.KindLaws.{all_map}
use Rattle.deck.proofs.NameLaws.{list_names, domain_names, one_role, many_roles, two_roles, assertion_names}
use Rattle.deck.proofs.names.axiom_names.Goals as goal

pub returns-then-below : goal.returns-then-below
unfolding axiom_of
returns-then-below c = rw (c.in-21.is, ← c.below.ensures, c.if-below.true, ← c.below-then-below.ensures) refl

pub returns-else-below : goal.returns-else-below
unfolding axiom_of
returns-else-below c = rw (c.in-21.is, ← c.below.ensures, c.if-below.false) refl

pub returns-then-below-2 : goal.returns-then-below-2
unfolding axiom_of
returns-then-below-2 c = rw (c.in-24.is, ← c.below-in-24.ensures, c.if-below-2.true, ← c.all_below.ensures) refl

pub returns-else-below-2 : goal.returns-else-below-2
unfolding axiom_of
returns-else-below-2 c = rw (c.in-24.is, ← c.below-in-24.ensures, c.if-below-2.false) refl

pub returns-then-role_below : goal.returns-then-role_below
unfolding axiom_of
returns-then-role_below c = rw (c.in-27.is, ← c.role_below.ensures, c.if-role_below.true, all_map, ← c.all_roles_below.ensures) refl

pub returns-else-role_below : goal.returns-else-role_below
unfolding axiom_of
returns-else-role_below c = rw (c.in-27.is, ← c.role_below.ensures, c.if-role_below.false) refl

pub returns-in-31 : goal.returns-in-31
returns-in-31 c = rw (many_roles _ _ _ c.args.kind (grind arith) (grind arith) (λ o. grind (arith, o)), ← c.all_roles_below-in-31.ensures) refl

pub returns-in-22 : goal.returns-in-22
returns-in-22 c = rw (list_names _ _ _ c.args.kind (omega arith) (omega arith), ← c.all_below-in-22.ensures) refl

pub returns-then-role_below-2 : goal.returns-then-role_below-2
returns-then-role_below-2 c = rw (domain_names _ _ _ c.args.kind (omega arith) (omega arith), ← c.role_below-in-25.ensures, c.if-role_below-2.true, ← c.below-then-role_below-2.ensures) refl

pub returns-else-role_below-2 : goal.returns-else-role_below-2
returns-else-role_below-2 c = rw (domain_names _ _ _ c.args.kind (omega arith) (omega arith), ← c.role_below-in-25.ensures, c.if-role_below-2.false) refl

pub returns-then-role_below-3 : goal.returns-then-role_below-3
returns-then-role_below-3 c = rw (two_roles _ _ _ c.args.kind (grind arith) (omega arith), ← c.role_below-in-32.ensures, c.if-role_below-3.true, ← c.role_below-then-role_below-3.ensures) refl

pub returns-else-role_below-3 : goal.returns-else-role_below-3
returns-else-role_below-3 c = rw (two_roles _ _ _ c.args.kind (grind arith) (omega arith), ← c.role_below-in-32.ensures, c.if-role_below-3.false) refl

pub returns-then-below-3 : goal.returns-then-below-3
returns-then-below-3 c = rw (assertion_names _ _ _ c.args.kind (λ o. grind (arith, o)), ← c.below-in_default.ensures, c.if-below-3.true, ← c.below-then-below-3.ensures) refl

pub returns-else-below-3 : goal.returns-else-below-3
returns-else-below-3 c = rw (assertion_names _ _ _ c.args.kind (λ o. grind (arith, o)), ← c.below-in_default.ensures, c.if-below-3.false) refl

pub returns-in-28 : goal.returns-in-28
returns-in-28 c = rw (one_role _ _ _ c.args.kind (grind arith) (grind arith) (λ o. grind (arith, o)), ← c.role_below-in-28.ensures) refl
