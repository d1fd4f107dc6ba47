-- A deck's clauses before the passes that come after its last axiom.
use Rattle.std.specs.Prelude.{◌≡◌, List, ℕ, ◌≤◌, length}
use Rattle.ir.specs.declared.counters.Counters.{Counters}
use Rattle.rules.specs.State.{Rooms}
use Rattle.rules.specs.Deck.{Known}
use Rattle.rules.specs.DeckLaws.{DeckIn}
use Rattle.rules.specs.Run.{first_fresh, scratch_bytes}
use Rattle.staging.specs.Stage.{Staged}

-- in scratch's bytes s and the words c, a, d of the tables; the deck has n axioms
pub record Before (s : List ℕ) (k : Counters) (n first : ℕ) (c a d : List ℕ) : Type 0 where
  pub limit : ℕ
  pub rooms : Rooms
  pub known : Known
  pub inside : DeckIn known
  pub staged : Staged limit rooms known s n k c a d
  pub fresh : first ≡ first_fresh known
  pub space : scratch_bytes ≤ length s
