-- A state laid out in the words w of the store and v of scratch; classes beyond the store's room stand in its text.
use Rattle.std.specs.Prelude.{◌≡◌, List, ◌⊎◌, ℕ, ◌≤◌, ◌<◌, length}
use Rattle.words.specs.Words.{words}
use Rattle.ir.specs.declared.atom.Atom.{Atom}
use Rattle.ir.specs.declared.atom.Atom.TheVariants.{Class, Exists, AtMost, AtLeast, Equal, Role as RoleAtom}
use Rattle.ir.specs.Roles.{role_id}
use Rattle.rules.specs.Deck.{most_roles}
use Rattle.rules.specs.Run.{scratch_bytes}
use Rattle.rules.specs.Semantics.{Interpretation}
use Rattle.sets.specs.Laid.{Laid, Found}

pub record Given (I : Interpretation) (roles size : ℕ) (text w v : List ℕ) : Type 0 where
  pub laid : Laid I roles w v
  pub found : Found I text w
  pub elements : size ≡ I.size
  pub few : roles ≤ most_roles

-- the roles that an atom names are among the first n
abbrev pub NamesRoles : ℕ → Atom → Type 0
NamesRoles n (Class k v) = Unit {0}
NamesRoles n (RoleAtom r u v) = role_id r < n
NamesRoles n (Exists r k v) = role_id r < n
NamesRoles n (AtMost r q m v) = role_id r < n
NamesRoles n (AtLeast r q m v) = role_id r < n
NamesRoles n (Equal u v) = Unit {0}

-- an atom of two variables of which one is x
abbrev pub OneIs : ℕ → ℕ → ℕ → Type 0
OneIs x u v = ((u ≡ x) × (v ≡ x → ⊥)) ⊎ ((v ≡ x) × (u ≡ x → ⊥))

abbrev pub PairWith : ℕ → Atom → Type 0
PairWith x (Class k v) = ⊥
PairWith x (RoleAtom r u v) = OneIs x u v
PairWith x (Exists r k v) = ⊥
PairWith x (AtMost r q m v) = ⊥
PairWith x (AtLeast r q m v) = ⊥
PairWith x (Equal u v) = OneIs x u v

-- what the code asks of the bytes
pub record GivenThere (size : ℕ) (text store scratch : List ℕ) : Type 0 where
  pub meant : Interpretation
  pub roles : ℕ
  pub given : Given meant roles size text (words store) (words scratch)
  pub space : scratch_bytes ≤ length scratch

pub record AtomThere (size : ℕ) (a : Atom) (text store scratch : List ℕ) : Type 0 where
  pub meant : Interpretation
  pub roles : ℕ
  pub given : Given meant roles size text (words store) (words scratch)
  pub names : NamesRoles roles a
  pub space : scratch_bytes ≤ length scratch
