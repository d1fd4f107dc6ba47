use mathlib.Core.Path.{refl}
use borrow.Author.Tests.{lt-ltb, le-ltb, le-leb, lt-leb}
use Rattle.layouts.proofs.check.takes_class.Goals as goal

pub returns-then-c-classes : goal.returns-then-c-classes
returns-then-c-classes c = rw (lt-ltb _ _ c.if-c-classes.true) refl

pub returns-then-c-first : goal.returns-then-c-first
returns-then-c-first c = rw (le-ltb _ _ c.if-c-classes.false, lt-leb _ _ c.if-c-first.true) refl

pub returns : goal.returns
returns c = rw (le-ltb _ _ c.if-c-classes.false, le-leb _ _ c.if-c-first.false) refl
