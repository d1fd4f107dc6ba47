-- The inverse map in the words w of scratch: for each role the code of what it is mapped to, its own where it is not a key. Behind it,
-- while it is built, the keys of its entries in their order.
use Rattle.std.specs.Prelude.{◌≡◌, List, ℕ, suc, ◌+◌, ◌*◌, ◌<◌, ◌≤◌, length, get_or}
use Rattle.std.proofs.Math.Option.{none, some}
use Rattle.words.specs.Words.{words}
use Rattle.ir.specs.Scratch.{roles_at, alternatives_at, lines_at}
use Rattle.ir.specs.Roles.{role_code}
use Rattle.ir.specs.declared.role.Role.TheVariants.{Named, Inverse}
use Rattle.rules.specs.Deck.{most_roles}
use Rattle.rules.specs.Inverse.{InverseCanon, lookup, canon_role}
use Rattle.rules.proofs.RingLaws.{newness}
use Rattle.rules.specs.Invariants.{Each, Bounds, AxiomIn}
use Rattle.ontology.specs.Layout.{axioms_of, AxiomsHeld}

pub record RolesHeld (w : List ℕ) (m : InverseCanon) : Type 0 where
  pub mapped : (r : ℕ) → r < most_roles → get_or w (roles_at + r) 0 ≡ role_code (canon_role m (Named r))

-- ---- while the map is built
-- the keys
abbrev pub entries_at : ℕ
entries_at = roles_at + most_roles

-- role r is no key and has its own code, or it is mapped to the inverse of a role
pub data MappedAt (w : List ℕ) (m : InverseCanon) (r : ℕ) : Type 0 where
  free : lookup m r ≡ none → get_or w (roles_at + r) 0 ≡ 2 * r → MappedAt w m r
  key : (i : ℕ) → i < most_roles → lookup m r ≡ some (Inverse i) → get_or w (roles_at + r) 0 ≡ 2 * i + 1 → MappedAt w m r

-- the first n roles
pub record Mapped (w : List ℕ) (m : InverseCanon) (n : ℕ) : Type 0 where
  pub each : (r : ℕ) → r < n → MappedAt w m r

-- the map and its n entries: entry i is the (i + 1)-th that was made
pub record Entries (w : List ℕ) (m : InverseCanon) (n : ℕ) : Type 0 where
  pub mapped : Mapped w m most_roles
  pub count : length m ≡ n
  pub order : (i : ℕ) → i < n → newness m (get_or w (entries_at + i) 0) ≡ suc i
  pub keys : (i : ℕ) → i < n → get_or w (entries_at + i) 0 < most_roles

-- nothing but the map and its entries was written
pub record Beside (w w' : List ℕ) : Type 0 where
  pub below : (j : ℕ) → j < roles_at → get_or w' j 0 ≡ get_or w j 0
  pub above : (j : ℕ) → alternatives_at ≤ j → get_or w' j 0 ≡ get_or w j 0

-- what the code asks of scratch's bytes s
pub record Building (s : List ℕ) (n : ℕ) : Type 0 where
  pub space : 4 * lines_at ≤ length s
  pub held : AxiomsHeld (words s) n
  pub bounds : Bounds
  pub few : bounds.roles ≤ most_roles
  pub concepts : ℕ
  pub inside : Each (AxiomIn bounds concepts) (axioms_of (words s) n)
