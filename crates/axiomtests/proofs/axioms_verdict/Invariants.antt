use mathlib.Core.Path.{◌≡◌}
use Prim.Native.Nat.{◌+◌}
use lib.ListN.{length, drop}
use Rattle.words.specs.Words.{words}
use Rattle.rules.specs.Deck.{Known, axiom_line}
use Rattle.rules.specs.Semantics.{Interpretation}
use Rattle.states.specs.Conditions.{axiom_broken}
use Rattle.states.specs.Test.{first_broken, axioms_verdict}
use Rattle.extents.specs.Ready.{Ready, Fits, ConceptSets}
use Rattle.axiomtests.specs.Breaking.{Aside}
use Rattle.axiomtests.proofs.axioms_verdict.Given as goal

abbrev pub invariant-loop-i : goal.invariant-loop-i
invariant-loop-i l = Aside (words l.initial.scratch) (words l.scratch)
    × ((d : Known) (I : Interpretation) → Ready d I (words l.store) (words l.initial.scratch) → ConceptSets d I (length d.concepts) (words l.initial.scratch) → Fits d I l.t → axioms_verdict I d ≡ first_broken (axiom_broken I d.concepts) (axiom_line d 0 + l.i) (drop l.i d.axioms))
