use mathlib.Core.Path.{refl, ◌∙◌}
use borrow.Author.Tests.{eq-eqb, ne_eqb, lt-ltb, le-ltb}
use Rattle.ontology.proofs.record.record_for.Goals as goal

pub returns-then-kind-lt-ATOMIC : goal.returns-then-kind-lt-ATOMIC
returns-then-kind-lt-ATOMIC c = c.new.ensures ∙ rw (lt-ltb _ _ c.if-kind-lt-ATOMIC.true) refl

pub returns-then-kind-lt-SELF : goal.returns-then-kind-lt-SELF
returns-then-kind-lt-SELF c = c.new-then-kind-lt-SELF.ensures ∙ rw (le-ltb _ _ c.if-kind-lt-ATOMIC.false, lt-ltb _ _ c.if-kind-lt-SELF.true) refl

pub returns-then-kind-eq-SELF : goal.returns-then-kind-eq-SELF
returns-then-kind-eq-SELF c = c.new-then-kind-eq-SELF.ensures ∙ rw (le-ltb _ _ c.if-kind-lt-ATOMIC.false, le-ltb _ _ c.if-kind-lt-SELF.false, eq-eqb _ _ c.if-kind-eq-SELF.true) refl

pub returns-then-kind-eq-NOT : goal.returns-then-kind-eq-NOT
returns-then-kind-eq-NOT c = c.new-then-kind-eq-NOT.ensures ∙ rw (le-ltb _ _ c.if-kind-lt-ATOMIC.false, le-ltb _ _ c.if-kind-lt-SELF.false, ne_eqb _ _ c.if-kind-eq-SELF.false, eq-eqb _ _ c.if-kind-eq-NOT.true) refl

pub returns-then-kind-lt-SOME : goal.returns-then-kind-lt-SOME
returns-then-kind-lt-SOME c = c.new-then-kind-lt-SOME.ensures ∙ rw (le-ltb _ _ c.if-kind-lt-ATOMIC.false, le-ltb _ _ c.if-kind-lt-SELF.false, ne_eqb _ _ c.if-kind-eq-SELF.false, ne_eqb _ _ c.if-kind-eq-NOT.false, lt-ltb _ _ c.if-kind-lt-SOME.true) refl

pub returns-then-kind-lt-MIN : goal.returns-then-kind-lt-MIN
returns-then-kind-lt-MIN c = c.new-then-kind-lt-MIN.ensures ∙ rw (le-ltb _ _ c.if-kind-lt-ATOMIC.false, le-ltb _ _ c.if-kind-lt-SELF.false, ne_eqb _ _ c.if-kind-eq-SELF.false, ne_eqb _ _ c.if-kind-eq-NOT.false, le-ltb _ _ c.if-kind-lt-SOME.false, lt-ltb _ _ c.if-kind-lt-MIN.true) refl

pub returns : goal.returns
returns c = c.new-2.ensures ∙ rw (le-ltb _ _ c.if-kind-lt-ATOMIC.false, le-ltb _ _ c.if-kind-lt-SELF.false, ne_eqb _ _ c.if-kind-eq-SELF.false, ne_eqb _ _ c.if-kind-eq-NOT.false, le-ltb _ _ c.if-kind-lt-SOME.false, le-ltb _ _ c.if-kind-lt-MIN.false) refl
