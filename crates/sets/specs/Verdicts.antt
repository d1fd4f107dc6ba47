-- A verdict as the code has it, with the words v of scratch.
use Rattle.std.specs.Prelude.{List, ℕ, Result, Ok, Err, take, drop}
use Prim.{Unit}
use Rattle.states.specs.Test.{Verdict, holds, broken}
use Rattle.sets.specs.declared.verdict.Broken.{Broken}
use Rattle.sets.specs.Places.{shown_at}

-- the elements that are shown
abbrev pub shown : List ℕ → ℕ → List ℕ
shown v k = take k (drop shown_at v)

abbrev pub verdict_in : List ℕ → Result (Unit {0}) Broken → Verdict
verdict_in v (Ok _) = holds
verdict_in v (Err b) = broken b.at (shown v b.shown)
