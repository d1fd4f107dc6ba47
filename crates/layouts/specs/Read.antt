-- What the reader of a state promises.
use Rattle.std.specs.Prelude.{◌≡◌, List, [], ℕ, eqb, Result, Ok, Err}
use Rattle.ir.specs.Pick.{pick}
use Rattle.rules.specs.Deck.{Known, known}
use Rattle.states.specs.State.{StateTold, stated, bad, unread, interpretation_of}
use Rattle.sets.specs.Laid.{Laid}
use Rattle.layouts.specs.declared.limits.Limits.{Limits}
use Rattle.layouts.specs.declared.BadLine.{BadLine}

pub record Declares (d : Known) (m : Limits) : Type 0 where
  pub classes : d.header.classes ≡ m.classes
  pub individuals : d.header.individuals ≡ m.individuals
  pub roles : d.header.roles ≡ m.roles

-- a deck that declares so many; a state's reading asks nothing else of it
abbrev pub known_of : Limits → Known
known_of m = known 0 (record { classes = m.classes; individuals = m.individuals; roles = m.roles; options = 0 }) [] [] [] []

-- the answer, and with a state the words of the store and of scratch that lay it out
abbrev pub StatedAs : Known → Limits → StateTold → List ℕ → List ℕ → Result ℕ BadLine → Type 0
StatedAs d m (stated s) w v (Ok n) = (n ≡ s.size) × Laid (interpretation_of d s) m.roles w v
StatedAs d m (stated s) w v (Err l) = ⊥
StatedAs d m (bad line) w v (Ok n) = ⊥
StatedAs d m (bad line) w v (Err l) = l.line ≡ line
StatedAs d m unread w v r = ⊥

abbrev pub ended_as : ℕ → ℕ → ℕ → Result ℕ BadLine
ended_as size singles individuals = pick (eqb singles individuals) (Ok size) (Err record { line = 0 })
