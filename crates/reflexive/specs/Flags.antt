-- A set of role ids as flags, a word for each role.
use Rattle.std.specs.Prelude.{◌≡◌, Bool, not, List, ℕ, ◌+◌, ◌*◌, ◌<◌, ◌≤◌, get_or, eqb}
use Rattle.ir.specs.Scratch.{roles_at}
use Rattle.rules.specs.Base.{contains}
use Rattle.rules.specs.Deck.{most_roles}
use Rattle.rules.specs.Invariants.{Each}

abbrev pub flags_at : ℕ
flags_at = roles_at + most_roles

abbrev pub is_flagged : List ℕ → ℕ → Bool
is_flagged w a = not (eqb (get_or w (flags_at + a) 0) 0)

pub record FlagsHeld (w set : List ℕ) : Type 0 where
  pub marked : (a : ℕ) → a < most_roles → is_flagged w a ≡ contains set a
  pub within : Each (λ a. a < most_roles) set

-- each role is mapped to one of the roles that there may be
pub record MapWithin (w : List ℕ) : Type 0 where
  pub codes : (r : ℕ) → r < most_roles → get_or w (roles_at + r) 0 < 2 * most_roles

-- only flags were written
pub record OnlyFlags (w w' : List ℕ) : Type 0 where
  pub before : (j : ℕ) → j < flags_at → get_or w' j 0 ≡ get_or w j 0
  pub behind : (j : ℕ) → flags_at + most_roles ≤ j → get_or w' j 0 ≡ get_or w j 0
