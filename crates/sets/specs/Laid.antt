-- An interpretation laid out: the words w of the store have a set for each class, the words v of scratch what each element is
-- related to by each role code.
use Rattle.std.specs.Prelude.{◌≡◌, Bool, List, ℕ, ◌+◌, ◌*◌, ◌<◌, ◌≤◌, length, get_or}
use Rattle.ir.specs.Roles.{role_of}
use Rattle.rules.specs.Base.{contains}
use Rattle.rules.specs.Semantics.{Interpretation, related}
use Rattle.states.specs.State.{most_elements}
use Rattle.states.specs.Masks.{mask_of}
use Rattle.states.specs.ScanLaws.{scanned}
use Rattle.sets.specs.Kept.{set_at}
use Rattle.sets.specs.Places.{rows_at}

-- what element x is related to by a role code
abbrev pub row_of : List ℕ → ℕ → ℕ → ℕ
row_of v code x = set_at v (rows_at + 64 * code + x)

-- what each of n elements is related to by it
abbrev pub Rows : List ℕ → ℕ → ℕ → (ℕ → ℕ → Bool) → Type 0
Rows v code n f = (x : ℕ) → x < n → row_of v code x ≡ mask_of n (f x)

-- every class that the store has room for, and the codes of so many roles
pub record Laid (I : Interpretation) (roles : ℕ) (w v : List ℕ) : Type 0 where
  pub some : 0 < I.size
  pub few : I.size ≤ most_elements
  pub classes : (c : ℕ) → 2 * c + 2 ≤ length w → set_at w c ≡ mask_of I.size (I.class c)
  pub rows : (code x : ℕ) → code < 2 * roles → x < I.size → row_of v code x ≡ mask_of I.size (related I (role_of code) x)

-- every class beyond its room, in the state's text
pub record Found (I : Interpretation) (text w : List ℕ) : Type 0 where
  pub beyond : (c x : ℕ) → length w < 2 * c + 2 → contains (scanned text c) x ≡ I.class c x

-- the words below a are as they were, or those from a on and below b
abbrev pub KeptTo : ℕ → List ℕ → List ℕ → Type 0
KeptTo a v v' = (i : ℕ) → i < a → get_or v' i 0 ≡ get_or v i 0

abbrev pub KeptIn : ℕ → ℕ → List ℕ → List ℕ → Type 0
KeptIn a b v v' = (i : ℕ) → a ≤ i → i < b → get_or v' i 0 ≡ get_or v i 0
