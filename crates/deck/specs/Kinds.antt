-- The code's table of kinds.
use Rattle.std.specs.Prelude.{◌≡◌, Bool, false, ℕ, Option, None, Some}
use Rattle.rules.specs.Deck.{section_of, fixed_of, is_list_kind}
use Rattle.deck.specs.Records.{section_code, first_part}
use Rattle.deck.specs.declared.kinds.Kind.{Kind}

-- the columns of the table
abbrev pub section_said : Option Kind → ℕ
section_said None = 0
section_said (Some k) = section_code k.section

abbrev pub fixed_said : Option Kind → ℕ
fixed_said None = 0
fixed_said (Some k) = k.fixed

abbrev pub listed_said : Option Kind → Bool
listed_said None = false
listed_said (Some k) = k.listed

abbrev pub first_said : Option Kind → ℕ
first_said None = 0
first_said (Some k) = k.first

-- what the table says of number n
pub record Says (o : Option Kind) (n : ℕ) : Type 0 where
  pub section : section_said o ≡ section_of n
  pub fixed : fixed_said o ≡ fixed_of n
  pub listed : listed_said o ≡ is_list_kind n
  pub first : first_said o ≡ first_part n
