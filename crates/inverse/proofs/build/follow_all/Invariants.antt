use Rattle.words.specs.Words.{words}
use Rattle.rules.specs.Concept.{Axiom}
use mathlib.Core.List.{List}
use Rattle.inverse.specs.Following.{Halfway, Following}
use Rattle.inverse.specs.Layout.{Beside}
use Rattle.inverse.proofs.build.follow_all.Given as goal

abbrev pub invariant-loop-i : goal.invariant-loop-i
invariant-loop-i l = Following l.scratch l.i × ((k : List Axiom) → Halfway k l.initial.scratch l.entries → Halfway k l.scratch l.i) × Beside (words l.initial.scratch) (words l.scratch)
