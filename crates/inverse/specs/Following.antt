-- Keys followed to where they end (option 8), the newest entry first: what an older one leads to is then followed already.
use Rattle.std.specs.Prelude.{◌≡◌, List, ℕ, suc, ◌+◌, ◌*◌, ◌<◌, ◌≤◌, length, get_or, leb}
use Rattle.words.specs.Words.{words}
use Rattle.ir.specs.Pick.{pick}
use Rattle.ir.specs.Scratch.{roles_at, alternatives_at}
use Rattle.ir.specs.declared.role.Role.{Role}
use Rattle.ir.specs.declared.role.Role.TheVariants.{Named}
use Rattle.rules.specs.Concept.{Axiom}
use Rattle.rules.specs.Deck.{most_roles}
use Rattle.rules.specs.Inverse.{InverseCanon, build_inverse_canon, canon_role, follow, mapped_by}
use Rattle.rules.proofs.RingLaws.{newness}
use Rattle.inverse.specs.Layout.{RolesHeld, entries_at}

-- the first n entries are as they were made, the others are followed
abbrev pub half : InverseCanon → ℕ → ℕ → Role
half m n k = pick (leb (newness m k) n) (canon_role m (Named k)) (follow m (Named k))

abbrev pub halfway : InverseCanon → ℕ → InverseCanon
halfway m n = mapped_by (half m n) m

-- in scratch's bytes s
pub record Halfway (l : List Axiom) (s : List ℕ) (n : ℕ) : Type 0 where
  pub space : 4 * alternatives_at ≤ length s
  pub few : n ≤ most_roles
  pub held : RolesHeld (words s) (halfway (build_inverse_canon l) n)
  pub within : (r : ℕ) → r < most_roles → get_or (words s) (roles_at + r) 0 < 2 * most_roles
  pub order : (i : ℕ) → i < n → newness (build_inverse_canon l) (get_or (words s) (entries_at + i) 0) ≡ suc i
  pub keys : (i : ℕ) → i < n → get_or (words s) (entries_at + i) 0 < most_roles

pub record Following (s : List ℕ) (n : ℕ) : Type 0 where
  pub axioms : List Axiom
  pub halfway : Halfway axioms s n
